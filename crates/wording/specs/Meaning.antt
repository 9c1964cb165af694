-- What a reader finds in the line that program `why` writes: its bytes for each cause, and the fact that each tells, in the words of causes/specs/Meaning.
-- The bytes stand here a second time, apart from those by which the code is described.
use Rattle.std.specs.Prelude.{ℕ, ◌+◌, ◌<◌, List, [], ◌∷◌, ◌++◌, ◌≡◌, ◌↔◌, length, take}
use Rattle.buffer.specs.Written.{Counts, Written}
use Rattle.system.specs.declared.System.{System}
use Rattle.system.specs.Layout.{read_file, opened, unread}
use Rattle.partition.specs.Assignment.{Assignment}
use Rattle.partition.specs.Plain.{ceiling_no, EngineOf, Partition, Impossible}
use Rattle.listing.specs.Demands.{InDecimal, TellsRefusal}
use Rattle.listing.specs.Text.{file_text}
use Rattle.causes.specs.declared.Cause.{Cause}
use Rattle.causes.specs.declared.Cause.TheVariants.{Possible, NoEngine, OneTooLarge, TooMuchTime, TooMuchMemory, TooManyReplicas, NoArrangement}
use Rattle.causes.specs.Meaning.{DoesNotFit, TooLarge, TimeExceeds, MemoryExceeds, CountExceeds, Not2, Not3, Not4, Not5}
use Rattle.wording.specs.Line.{why_text}

-- The bytes

-- `cause `, the digit n, `: `, some words, and 0A
abbrev pub cause_out : ℕ → List ℕ → List ℕ
cause_out n words = 99 ∷ 97 ∷ 117 ∷ 115 ∷ 101 ∷ 32 ∷ (48 + n) ∷ 58 ∷ 32 ∷ (words ++ (10 ∷ []))

-- `cause 2: type 3 fits nowhere`: the type's number stands in it in decimal
pub record TellsType (t : ℕ) (text : List ℕ) : Type 0 where
  pub digits : List ℕ
  pub in_decimal : InDecimal t digits
  pub bytes : text ≡ cause_out 2 (116 ∷ 121 ∷ 112 ∷ 101 ∷ 32 ∷ (digits ++ (32 ∷ 102 ∷ 105 ∷ 116 ∷ 115 ∷ 32 ∷ 110 ∷ 111 ∷ 119 ∷ 104 ∷ 101 ∷ 114 ∷ 101 ∷ [])))

-- each line: `placed`, `nothing is in service`, that of cause 2, `too much time in all`, `too much storage in all`, `too many of one type for its q`,
-- `enough in all, but no arrangement fits`
abbrev pub Tells : Cause → List ℕ → Type 0
Tells Possible text = text ≡ 112 ∷ 108 ∷ 97 ∷ 99 ∷ 101 ∷ 100 ∷ 10 ∷ []
Tells NoEngine text = text ≡ cause_out 1 (110 ∷ 111 ∷ 116 ∷ 104 ∷ 105 ∷ 110 ∷ 103 ∷ 32 ∷ 105 ∷ 115 ∷ 32 ∷ 105 ∷ 110 ∷ 32 ∷ 115 ∷ 101 ∷ 114 ∷ 118 ∷ 105 ∷ 99 ∷ 101 ∷ [])
Tells (OneTooLarge t) text = TellsType t text
Tells TooMuchTime text = text ≡ cause_out 3 (116 ∷ 111 ∷ 111 ∷ 32 ∷ 109 ∷ 117 ∷ 99 ∷ 104 ∷ 32 ∷ 116 ∷ 105 ∷ 109 ∷ 101 ∷ 32 ∷ 105 ∷ 110 ∷ 32 ∷ 97 ∷ 108 ∷ 108 ∷ [])
Tells TooMuchMemory text = text ≡ cause_out 4 (116 ∷ 111 ∷ 111 ∷ 32 ∷ 109 ∷ 117 ∷ 99 ∷ 104 ∷ 32 ∷ 115 ∷ 116 ∷ 111 ∷ 114 ∷ 97 ∷ 103 ∷ 101 ∷ 32 ∷ 105 ∷ 110 ∷ 32 ∷ 97 ∷ 108 ∷ 108 ∷ [])
Tells TooManyReplicas text = text ≡ cause_out 5 (116 ∷ 111 ∷ 111 ∷ 32 ∷ 109 ∷ 97 ∷ 110 ∷ 121 ∷ 32 ∷ 111 ∷ 102 ∷ 32 ∷ 111 ∷ 110 ∷ 101 ∷ 32 ∷ 116 ∷ 121 ∷ 112 ∷ 101 ∷ 32 ∷ 102 ∷ 111 ∷ 114 ∷ 32 ∷ 105 ∷ 116 ∷ 115 ∷ 32 ∷ 113 ∷ [])
Tells NoArrangement text = text ≡ cause_out 6 (101 ∷ 110 ∷ 111 ∷ 117 ∷ 103 ∷ 104 ∷ 32 ∷ 105 ∷ 110 ∷ 32 ∷ 97 ∷ 108 ∷ 108 ∷ 44 ∷ 32 ∷ 98 ∷ 117 ∷ 116 ∷ 32 ∷ 110 ∷ 111 ∷ 32 ∷ 97 ∷ 114 ∷ 114 ∷ 97 ∷ 110 ∷ 103 ∷ 101 ∷ 109 ∷ 101 ∷ 110 ∷ 116 ∷ 32 ∷ 102 ∷ 105 ∷ 116 ∷ 115 ∷ [])

-- What they tell

-- of a system: the line is one of the seven, each exactly where its cause is the first that holds of n(t) instances of each type on the engines 1 to m.
-- That of 1 is never told, since m is at least 1; that of 2 names the lowest type that is too large
pub record TellsCause (y : System) (text : List ℕ) : Type 0 where
  pub given : (c : Cause) × Tells c text
  pub zero : Tells Possible text ↔ ((χ : Assignment) × Partition y (EngineOf y) (ceiling_no y) χ)
  pub one : Tells NoEngine text → ⊥
  pub two : (t : ℕ) → Tells (OneTooLarge t) text ↔ (DoesNotFit y (ceiling_no y) t × ((u : ℕ) → u < t → DoesNotFit y (ceiling_no y) u → ⊥))
  pub too_large : (t : ℕ) → Tells (OneTooLarge t) text → TooLarge y t
  pub three : Tells TooMuchTime text ↔ (Not2 y y.engines (ceiling_no y) × TimeExceeds y y.engines (ceiling_no y))
  pub four : Tells TooMuchMemory text ↔ (Not3 y y.engines (ceiling_no y) × MemoryExceeds y y.engines (ceiling_no y))
  pub five : Tells TooManyReplicas text ↔ (Not4 y y.engines (ceiling_no y) × CountExceeds y y.engines (ceiling_no y))
  pub six : Tells NoArrangement text ↔ (Not5 y y.engines (ceiling_no y) × Impossible y (EngineOf y) (ceiling_no y))

-- of a file: why it does not read, or such a line; and the file's listing, which program `plan` writes, is `refused 12` exactly where this line is not `placed`
pub record TellsWhy (file text : List ℕ) : Type 0 where
  pub unreadable : (n : ℕ) → read_file file ≡ unread n → TellsRefusal n text
  pub cause : (y : System) → read_file file ≡ opened y → TellsCause y text
  pub refused12 : (y : System) → read_file file ≡ opened y → TellsRefusal 12 (file_text file) ↔ (Tells Possible text → ⊥)

-- what the call `why_of` promises of its result and the buffer
pub record WhyPromises (file old new : List ℕ) (r : ℕ) : Type 0 where
  pub written : Written (why_text file) old new r
  pub tells : TellsWhy file (why_text file)

-- what the call `why_read` promises: the same of every file, whatever its length, of whose first bytes, as many as `front` has room for, just these were read;
-- request 2026-14: there is room for 384
pub record ReadPromises (front : List ℕ) (read : ℕ) (old new : List ℕ) (r : ℕ) : Type 0 where
  pub size : length front ≡ 384
  pub within : Counts r new
  pub of_file : (file : List ℕ) → take (length front) file ≡ take read front → WhyPromises file old new r

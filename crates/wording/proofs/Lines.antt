-- Each line is the one that a reader finds; and it can be read back, so that it tells one cause and one type.
use Prim.Native.Nat.{ℕ, ◌-◌}
use mathlib.Core.Path.{◌≡◌, refl, sym, ap, ap₂, ◌∙◌}
use mathlib.Core.List.{List, [], ◌∷◌, ◌++◌, append_assoc}
use mathlib.Core.Bool.{cond}
use native.Mathlib.Omega.{arith}
use lib.Dec.{eqb}
use lib.ListN.{length, get_or, take, drop, length-append}
use lib.Seq.{take-append_seam}
use Rattle.listing.specs.Listing.{decimal}
use Rattle.listing.specs.Demands.{value_from}
use Rattle.listing.proofs.Numbers.{in-decimal}
use Rattle.causes.specs.declared.Cause.{Cause}
use Rattle.causes.specs.declared.Cause.TheVariants.{Possible, NoEngine, OneTooLarge, TooMuchTime, TooMuchMemory, TooManyReplicas, NoArrangement}
use Rattle.wording.specs.Line.{type_line, cause_line}
use Rattle.wording.specs.Meaning.{TellsType, Tells}

-- what stands after the number in the line of cause 2
abbrev nowhere : List ℕ
nowhere = 32 ∷ 102 ∷ 105 ∷ 116 ∷ 115 ∷ 32 ∷ 110 ∷ 111 ∷ 119 ∷ 104 ∷ 101 ∷ 114 ∷ 101 ∷ []

-- main: each line is the one that is told

type-told : (t : ℕ) → TellsType t (type_line t)
type-told t = record {
  digits = decimal t;
  in_decimal = in-decimal t;
  bytes = ap (λ (l : List ℕ). 99 ∷ 97 ∷ 117 ∷ 115 ∷ 101 ∷ 32 ∷ 50 ∷ 58 ∷ 32 ∷ 116 ∷ 121 ∷ 112 ∷ 101 ∷ 32 ∷ l) (sym (append_assoc (decimal t) nowhere (10 ∷ [])));
}

pub own_line : (c : Cause) → Tells c (cause_line c)
unfolding cause_line
own_line Possible = refl
own_line NoEngine = refl
own_line (OneTooLarge t) = type-told t
own_line TooMuchTime = refl
own_line TooMuchMemory = refl
own_line TooManyReplicas = refl
own_line NoArrangement = refl

-- main: what a line is read as, by its seventh byte, and for cause 2 by what stands between its 14 first and its 14 last bytes

by_byte : ℕ → ℕ → Cause
by_byte byte t =
    cond (eqb byte 10) Possible
    (cond (eqb byte 49) NoEngine
    (cond (eqb byte 50) (OneTooLarge t)
    (cond (eqb byte 51) TooMuchTime (cond (eqb byte 52) TooMuchMemory (cond (eqb byte 53) TooManyReplicas NoArrangement)))))

read_as : List ℕ → Cause
read_as text = by_byte (get_or text 6 0) (value_from 0 (take (length text - 28) (drop 14 text)))

type-read : (t : ℕ) (text : List ℕ) → TellsType t text → read_as text ≡ OneTooLarge t
unfolding read_as by_byte
type-read t text r =
    let digits = r.digits in
    let size : length text - 28 ≡ length digits = omega (arith, ap length r.bytes, length-append (digits ++ nowhere) (10 ∷ []), length-append digits nowhere) in
    let rest : drop 14 text ≡ digits ++ (nowhere ++ (10 ∷ [])) = ap (drop 14) r.bytes ∙ append_assoc digits nowhere (10 ∷ []) in
    let number : take (length text - 28) (drop 14 text) ≡ digits = ap₂ take size rest ∙ take-append_seam digits (nowhere ++ (10 ∷ [])) in
    ap₂ by_byte (ap (λ (l : List ℕ). get_or l 6 0) r.bytes) (ap (value_from 0) number ∙ r.in_decimal.value)

line_read : (c : Cause) (text : List ℕ) → Tells c text → read_as text ≡ c
unfolding read_as by_byte
line_read Possible text e = rw e
line_read NoEngine text e = rw e
line_read (OneTooLarge t) text r = type-read t text r
line_read TooMuchTime text e = rw e
line_read TooMuchMemory text e = rw e
line_read TooManyReplicas text e = rw e
line_read NoArrangement text e = rw e

-- main: a line tells one cause
pub one-cause : (c d : Cause) → Tells d (cause_line c) → c ≡ d
one-cause c d t = sym (line_read c (cause_line c) (own_line c)) ∙ line_read d (cause_line c) t

-- Laws of the definitions of a listing: decimal digits, and lines.
use Prim.Native.Nat.{ℕ, zero, suc, ◌+◌, ◌/◌, ◌%◌, ◌≤◌, ◌<◌, min}
use mathlib.Core.Path.{◌≡◌, refl, sym, ap, ◌∙◌}
use mathlib.Core.Bool.{Bool, true, false}
use mathlib.Core.List.{List, [], ◌∷◌, ◌++◌, append_assoc, append-nil, map, map-append}
use native.Mathlib.Nat.{le_of_lt, min-eq_left, min-eq_right}
use native.Mathlib.Omega.{arith}
use native.Mathlib.Numerals.{add-one}
use lib.ListN.{length, get_or, take, drop, length-drop}
use lib.Seq.{take-suc, get_or-drop, take_all, take-length}
use lib.Dec.{leb}
use borrow.Author.Tests.{lt-ltb, le-ltb, leb-true, leb-false}
use Rattle.buffer.specs.Written.{Puts}
use Rattle.buffer.proofs.Laws.{puts_then}
use Rattle.system.specs.Card.{Card}
use Rattle.loads.specs.declared.EngineLoad.{EngineLoad}
use Rattle.partition.specs.Lent.{Lent}
use Rattle.planner.specs.declared.Plan.{Plan}
use Rattle.planner.specs.Plan.{records_with}
use Rattle.planner.specs.MixedDemands.{PlanCall}
use Rattle.listing.specs.Listing.{engines_word, engine_word, util_word, mem_word, types_word, refused_word, space, line_end, digit, decimal_from, decimal, parted, line, engine_line, record_line, record_lines, plan_listing, card_listing}

-- decimal digits

pub one-digit : (f n : ℕ) → n < 10 → decimal_from f n ≡ digit n ∷ []
unfolding decimal_from
one-digit zero n h = refl
one-digit (suc f) n h = rw (lt-ltb n 10 h)

pub more-digits : (f n : ℕ) → 10 ≤ n → decimal_from (suc f) n ≡ decimal_from f (n / 10) ++ (digit (n % 10) ∷ [])
unfolding decimal_from
more-digits f n h = rw (le-ltb n 10 h)

-- the words, one behind the other, as the source's string has them; a part of them with one byte more

abbrev pub words : List ℕ
words = engines_word ++ util_word ++ mem_word ++ types_word ++ refused_word

pub word-suc : (start i : ℕ) → start + i < 26 → take (i + 1) (drop start words) ≡ take i (drop start words) ++ (get_or words (start + i) 0 ∷ [])
word-suc start i h =
    let inside : i < length (drop start words) = omega (arith, length-drop start words) in
    ap (λ (n : ℕ). take n (drop start words)) (add-one i)
    ∙ take-suc (drop start words) i 0 inside
    ∙ ap (λ (b : ℕ). take i (drop start words) ++ (b ∷ [])) (get_or-drop start words i 0)

-- lines

pub parted-append : (ws vs : List (List ℕ)) → parted (ws ++ vs) ≡ parted ws ++ parted vs
unfolding parted
parted-append [] vs = refl
parted-append (w ∷ ws) vs = ap (λ (l : List ℕ). space ∷ (w ++ l)) (parted-append ws vs) ∙ simp append_assoc

-- one count more
pub counts-suc : (xs : List ℕ) (i : ℕ) → i < length xs → parted (map decimal (take (suc i) xs)) ≡ parted (map decimal (take i xs)) ++ (space ∷ decimal (get_or xs i 0))
unfolding parted
counts-suc xs i h = rw (take-suc xs i 0, map-append, parted-append) (simp append-nil)

-- a word with no number, and then the byte that ends it
pub named_end : (word xs : List ℕ) (end : ℕ) {at p r : ℕ} {old mid new : List ℕ} → length xs ≡ 0 → at ≤ length old → Puts word at old mid p → Puts (end ∷ []) p mid new r
    → Puts (word ++ parted (map decimal xs) ++ (end ∷ [])) at old new r
unfolding parted
named_end word [] end none room named ended = rw append-nil (puts_then room named ended)
named_end word (x ∷ xs) end none room named ended = absurd (omega arith)

-- a word with all numbers but the last, each after a space, then a space, the last and the byte that ends them
pub numbered-end : (word xs : List ℕ) (i end : ℕ) {at p q r : ℕ} {old mid told new : List ℕ} → suc i ≡ length xs → at ≤ length old
    → Puts (word ++ parted (map decimal (take i xs)) ++ (space ∷ [])) at old mid p → Puts (decimal (get_or xs i 0)) p mid told q → Puts (end ∷ []) q told new r
    → Puts (word ++ parted (map decimal xs) ++ (end ∷ [])) at old new r
numbered-end word xs i end all room fewer last ended =
    let counts : parted (map decimal xs) ≡ parted (map decimal (take i xs)) ++ (space ∷ decimal (get_or xs i 0)) =
    ap (λ (l : List ℕ). parted (map decimal l)) (sym (take-length xs) ∙ ap (λ (n : ℕ). take n xs) (sym all)) ∙ counts-suc xs i (omega arith) in
    let regrouped : word ++ parted (map decimal (take i xs)) ++ (space ∷ []) ++ decimal (get_or xs i 0) ++ (end ∷ []) ≡ word ++ parted (map decimal xs) ++ (end ∷ []) = rw counts (simp append_assoc) in
    rw regrouped at (puts_then room (puts_then room fewer last) ended)

-- a list is not longer than it is
pub take_min : {A : Type 0} (k : ℕ) (l : List A) → take (min k (length l)) l ≡ take k l
take_min k l = go (leb k (length l)) refl
  where
    go : (b : Bool) → leb k (length l) ≡ b → take (min k (length l)) l ≡ take k l
    go true e = ap (λ (n : ℕ). take n l) (min-eq_left (leb-true k (length l) e))
    go false e =
        let short : length l ≤ k = le_of_lt (leb-false k (length l) e) in
        ap (λ (n : ℕ). take n l) (min-eq_right short) ∙ take-length l ∙ sym (take_all k l short)

-- a line is its parts, one after another
regroup : (a b c d e f g h i j : List ℕ) → (a ++ b) ++ (c ++ d) ++ (e ++ f) ++ g ++ h ++ i ++ j ≡ a ++ (b ++ (c ++ (d ++ (e ++ (f ++ (g ++ (h ++ i)))))) ++ j)
regroup a b c d e f g h i j = simp append_assoc

pub engine_line-parts : (n t m : ℕ) (xs : List ℕ)
    → (engine_word ++ space ∷ decimal n)
    ++ (space ∷ util_word ++ space ∷ decimal t)
    ++ (space ∷ mem_word ++ space ∷ decimal m)
    ++ (space ∷ [])
    ++ types_word
    ++ parted (map decimal xs)
    ++ (line_end ∷ [])
    ≡ engine_line n t m xs
unfolding engine_line parted
engine_line-parts n t m xs =
    regroup engine_word (space ∷ decimal n) (space ∷ util_word) (space ∷ decimal t) (space ∷ mem_word) (space ∷ decimal m) (space ∷ []) types_word (parted (map decimal xs)) (line_end ∷ [])

-- the same, each part with the byte after it
pub engine_line-entries : (n t m : ℕ) (xs : List ℕ)
    → (engine_word ++ (space ∷ decimal n) ++ (space ∷ []))
    ++ (util_word ++ (space ∷ decimal t) ++ (space ∷ []))
    ++ (mem_word ++ (space ∷ decimal m) ++ (space ∷ []))
    ++ (types_word ++ parted (map decimal xs) ++ (line_end ∷ []))
    ≡ engine_line n t m xs
engine_line-entries n t m xs =
    ended engine_word (space ∷ decimal n) (space ∷ []) util_word (space ∷ decimal t) mem_word (space ∷ decimal m) types_word (parted (map decimal xs)) (line_end ∷ []) ∙ engine_line-parts n t m xs
  where
    ended : (a b c d e f g h i j : List ℕ) → (a ++ b ++ c) ++ (d ++ e ++ c) ++ (f ++ g ++ c) ++ (h ++ i ++ j) ≡ (a ++ b) ++ (c ++ d ++ e) ++ (c ++ f ++ g) ++ c ++ h ++ i ++ j
    ended a b c d e f g h i j = simp append_assoc

-- one engine more, under its own number
engines-suc : (k : ℕ) (numbers : List ℕ) (loads : List EngineLoad) (i : ℕ) (d : EngineLoad) → i < length numbers → i < length loads
    → record_lines k (take (suc i) (records_with numbers loads)) ≡ record_lines k (take i (records_with numbers loads)) ++ record_line k (record { number = get_or numbers i 0; load = get_or loads i d })
unfolding record_lines records_with
engines-suc k [] loads i d p q = absurd (omega arith)
engines-suc k (n ∷ ns) [] i d p q = absurd (omega arith)
engines-suc k (n ∷ ns) (l ∷ ls) zero d p q = simp append-nil
engines-suc k (n ∷ ns) (l ∷ ls) (suc i) d p q =
    let first = record_line k (record { number = n; load = l }) in
    let lines = record_lines k (take i (records_with ns ls)) in
    ap (λ (rest : List ℕ). first ++ rest) (engines-suc k ns ls i d (omega arith) (omega arith))
    ∙ sym (append_assoc first lines (record_line k (record { number = get_or ns i 0; load = get_or ls i d })))

pub lines-suc : (k : ℕ) (numbers : List ℕ) (loads : List EngineLoad) (i : ℕ) (d : EngineLoad) → i < length numbers → i < length loads
    → record_lines k (take (i + 1) (records_with numbers loads)) ≡ record_lines k (take i (records_with numbers loads)) ++ record_line k (record { number = get_or numbers i 0; load = get_or loads i d })
lines-suc k numbers loads i d p q =
    ap (λ (n : ℕ). record_lines k (take n (records_with numbers loads))) (add-one i) ∙ engines-suc k numbers loads i d p q

-- a line of one word and one number
pub line-parts : (word : List ℕ) (n : ℕ) → word ++ (space ∷ decimal n) ++ (line_end ∷ []) ≡ line word (decimal n ∷ [])
unfolding parted
line-parts word n = simp (append_assoc, append-nil)

-- the listing of what a plan promises, of whichever card
pub listing-planned : {c : Card} {table : Lent} {room : ℕ} {p : Plan} {after : Lent} → PlanCall c table room p after → plan_listing p ≡ card_listing c table room
listing-planned h = rw (h.whole.answers, h.whole.uses, h.whole.counts, h.whole.numbers, h.whole.places)

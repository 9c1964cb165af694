-- Laws of bytes put into a buffer: one after another, what stands where afterwards, and that the bytes of a number read back as the number.
use Prim.Native.Nat.{ℕ, zero, suc, ◌+◌, ◌*◌, ◌/◌, ◌%◌, ◌≤◌, ◌<◌}
use mathlib.Core.Path.{◌≡◌, refl, sym, ap, ap₂, ◌∙◌}
use mathlib.Core.List.{List, [], ◌∷◌, ◌++◌, append_assoc}
use native.Mathlib.Nat.{add-zero, zero-add, add_assoc, div-add-mod'}
use native.Mathlib.Omega.{arith}
use native.Mathlib.Numerals.{add-one}
use lib.ListN.{length, get_or, take, drop, set, length-append, take-append-drop, get_or-append}
use lib.Seq.{take_at, drop_at, drop-drop, set_split, paste, take-length, length-take-le, get_or-append-add, get_or-take, get_or-drop}
use lib.Dec.{lit<}
use Rattle.buffer.specs.Bytes.{bytes2, bytes4}
use Rattle.buffer.specs.Written.{put, Puts, Written}

-- bytes put one after another

-- b put where a ended: the two put together
pub put-put : (a b : List ℕ) (at : ℕ) (old : List ℕ) → at ≤ length old → put b (at + length a) (put a at old) ≡ put (a ++ b) at old
put-put a b at old h =
    let head : length (take at old ++ a) ≡ at + length a = length-append (take at old) a ∙ ap (λ (n : ℕ). n + length a) (length-take-le at old h) in
    let kept : take (at + length a) (put a at old) ≡ take at old ++ a = ap (take (at + length a)) (sym (append_assoc (take at old) a _)) ∙ take_at (take at old ++ a) _ (at + length a) head in
    let rest : drop (at + length a) (put a at old) ≡ drop (at + length a) old = ap (drop (at + length a)) (sym (append_assoc (take at old) a _)) ∙ drop_at (take at old ++ a) _ (at + length a) head in
    let past : drop (at + length a + length b) (put a at old) ≡ drop (at + length (a ++ b)) old =
    sym (drop-drop (length b) (at + length a) (put a at old))
    ∙ ap (drop (length b)) rest
    ∙ drop-drop (length b) (at + length a) old
    ∙ ap (λ (n : ℕ). drop n old) (add_assoc at (length a) (length b) ∙ ap (λ (n : ℕ). at + n) (sym (length-append a b))) in
    ap₂ (λ (x y : List ℕ). x ++ (b ++ y)) kept past ∙ simp append_assoc

pub puts_then : {a b : List ℕ} {at p q : ℕ} {old mid new : List ℕ} → at ≤ length old → Puts a at old mid p → Puts b p mid new q → Puts (a ++ b) at old new q
puts_then {a = a} {b = b} {at = at} {p = p} {q = q} {old = old} {mid = mid} {new = new} h x y = record {
  left = y.left ∙ ap₂ (put b) x.next x.left ∙ put-put a b at old h;
  next = y.next ∙ ap (λ (n : ℕ). n + length b) x.next ∙ simp length-append (omega arith);
}

-- one byte stored
pub puts-byte : (b at : ℕ) (old : List ℕ) → at < length old → Puts (b ∷ []) at old (set old at b) (at + 1)
puts-byte b at old h = record { left = rw (add-one, set_split old at b); next = refl }

-- nothing put
pub puts_none : (at : ℕ) (old : List ℕ) → Puts [] at old old at
puts_none at old = record { left = sym (simp (add-zero, take-append-drop)); next = sym (add-zero at) }

-- a whole word copied
pub puts-copy : (word old : List ℕ) (at n : ℕ) → n ≡ length word → Puts word at old (paste old at word n) (at + length word)
puts-copy word old at n e = record { left = rw (e, take-length word, append_assoc); next = refl }

-- what stands at the start of the buffer
pub written : {bytes old new : List ℕ} {r : ℕ} → r ≤ length old → length new ≡ length old → Puts bytes 0 old new r → Written bytes old new r
written {bytes = bytes} {old = old} {new = new} {r = r} h e p =
    let inside : r ≤ length new = omega arith in
    record {
      left = p.left ∙ ap (λ (n : ℕ). bytes ++ drop n old) (zero-add (length bytes));
      count = p.next ∙ zero-add (length bytes);
      within = (inside, sym (length-take-le r new inside));
    }

-- what stands where afterwards: the bytes from `at` on, and before and past them what stood there

pub put-before : (bytes : List ℕ) (at : ℕ) (old : List ℕ) (i : ℕ) → at ≤ length old → i < at → get_or (put bytes at old) i 0 ≡ get_or old i 0
put-before bytes at old i h less =
    get_or-append (take at old) _ 0 i (rw (length-take-le at old h) less) ∙ get_or-take at old i 0 less

pub put-inside : (bytes : List ℕ) (at : ℕ) (old : List ℕ) (i : ℕ) → at ≤ length old → i < length bytes → get_or (put bytes at old) (at + i) 0 ≡ get_or bytes i 0
put-inside bytes at old i h less =
    ap (λ (n : ℕ). get_or (put bytes at old) (n + i) 0) (sym (length-take-le at old h))
    ∙ get_or-append-add (take at old) _ i 0
    ∙ get_or-append bytes _ 0 i less

pub put-past : (bytes : List ℕ) (at : ℕ) (old : List ℕ) (i : ℕ) → at ≤ length old → get_or (put bytes at old) (at + length bytes + i) 0 ≡ get_or old (at + length bytes + i) 0
put-past bytes at old i h =
    let head : length (take at old ++ bytes) ≡ at + length bytes = length-append (take at old) bytes ∙ ap (λ (n : ℕ). n + length bytes) (length-take-le at old h) in
    ap₂ (λ (l : List ℕ) (n : ℕ). get_or l (n + i) 0) (sym (append_assoc (take at old) bytes _)) (sym head)
    ∙ get_or-append-add (take at old ++ bytes) _ i 0
    ∙ get_or-drop (at + length bytes) old i 0

-- the bytes of a number: each is one, they read back as the number, and bytes that were read come back

pub bytes2-small : (n i : ℕ) → n < 65536 → get_or (bytes2 n) i 0 < 256
bytes2-small n zero h = omega arith
bytes2-small n (suc zero) h = omega arith
bytes2-small n (suc (suc i)) h = lit< tt

pub bytes4-small : (n i : ℕ) → n < 4294967296 → get_or (bytes4 n) i 0 < 256
bytes4-small n zero h = bytes2-small (n / 65536) 0 (omega arith)
bytes4-small n (suc zero) h = bytes2-small (n / 65536) 1 (omega arith)
bytes4-small n (suc (suc i)) h = bytes2-small (n % 65536) i (omega arith)

pub bytes2-read : (n : ℕ) → get_or (bytes2 n) 0 0 * 256 + get_or (bytes2 n) 1 0 ≡ n
bytes2-read n = div-add-mod' n 256

pub bytes4-read : (n : ℕ) → (get_or (bytes4 n) 0 0 * 256 + get_or (bytes4 n) 1 0) * 65536 + (get_or (bytes4 n) 2 0 * 256 + get_or (bytes4 n) 3 0) ≡ n
bytes4-read n = ap₂ (λ (a b : ℕ). a * 65536 + b) (bytes2-read (n / 65536)) (bytes2-read (n % 65536)) ∙ div-add-mod' n 65536

pub bytes2-back : (a b : ℕ) → b < 256 → bytes2 (a * 256 + b) ≡ a ∷ b ∷ []
bytes2-back a b h =
    let upper : (a * 256 + b) / 256 ≡ a = omega arith in
    let lower : (a * 256 + b) % 256 ≡ b = omega arith in
    rw (upper, lower)

pub bytes4-back : (a b c d : ℕ) → b < 256 → c < 256 → d < 256 → bytes4 ((a * 256 + b) * 65536 + (c * 256 + d)) ≡ a ∷ b ∷ c ∷ d ∷ []
bytes4-back a b c d hb hc hd =
    let n = (a * 256 + b) * 65536 + (c * 256 + d) in
    let upper : n / 65536 ≡ a * 256 + b = omega arith in
    let lower : n % 65536 ≡ c * 256 + d = omega arith in
    ap₂ (λ (x y : ℕ). bytes2 x ++ bytes2 y) upper lower ∙ ap₂ (λ (x y : List ℕ). x ++ y) (bytes2-back a b hb) (bytes2-back c d hd)

-- so a number that was put stands in the buffer

pub two-stands : {n at r : ℕ} {old new : List ℕ} → at ≤ length old → Puts (bytes2 n) at old new r → get_or new at 0 * 256 + get_or new (at + 1) 0 ≡ n
two-stands {n = n} {at = at} {old = old} h p =
    let first = rw (add-zero at) at (put-inside (bytes2 n) at old 0 h (lit< tt)) in
    rw (p.left, first, put-inside (bytes2 n) at old 1 h (lit< tt)) (bytes2-read n)

pub four-stands : {n at r : ℕ} {old new : List ℕ} → at ≤ length old → Puts (bytes4 n) at old new r
    → (get_or new at 0 * 256 + get_or new (at + 1) 0) * 65536 + (get_or new (at + 2) 0 * 256 + get_or new (at + 3) 0) ≡ n
four-stands {n = n} {at = at} {old = old} h p =
    let byte : (i : ℕ) → i < 4 → get_or (put (bytes4 n) at old) (at + i) 0 ≡ get_or (bytes4 n) i 0 = λ i less. put-inside (bytes4 n) at old i h less in
    let first = rw (add-zero at) at (byte 0 (lit< tt)) in
    rw (p.left, first, byte 1 (lit< tt), byte 2 (lit< tt), byte 3 (lit< tt)) (bytes4-read n)

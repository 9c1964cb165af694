-- Laws of the text of a run, one step of each loop at a time: the name of an instance, what arrives, the parts of a line put together.
use Prim.Native.Nat.{ℕ, ◌+◌, ◌-◌, ◌≤◌, ◌<◌}
use mathlib.Core.Path.{◌≡◌, refl, sym, ap, ap₂, ◌∙◌}
use mathlib.Core.List.{List, [], ◌++◌}
use native.Mathlib.Omega.{arith}
use native.Mathlib.Numerals.{add-one}
use lib.ListN.{length, get_or, take, drop, drop_of_length-le}
use lib.Seq.{drop-cons, take_at}
use borrow.Author.Tests.{lt-ltb, le-ltb}
use Rattle.buffer.specs.Written.{Written}
use Rattle.runs.specs.declared.Job.{Job}
use Rattle.runs.specs.Run.{no_job, started, arrived, chosen, worked}
use Rattle.runs.specs.Trace.{state_at}
use Rattle.timeline.specs.Text.{kind_from, number_from, arrival_at, arrivals_from, line_with, tick_lines, window_text}

-- the name of an instance

pub kind-here : (counts : List ℕ) (t k p : ℕ) → t < length counts → p < get_or counts t 0 → kind_from k (drop t counts) p ≡ k
unfolding kind_from
kind-here counts t k p h less = rw (drop-cons counts t 0 h, lt-ltb p (get_or counts t 0) less)

pub kind-on : (counts : List ℕ) (t k p : ℕ) → t < length counts → get_or counts t 0 ≤ p → kind_from k (drop t counts) p ≡ kind_from (k + 1) (drop (t + 1) counts) (p - get_or counts t 0)
unfolding kind_from
kind-on counts t k p h more = rw (add-one t, drop-cons counts t 0 h, le-ltb p (get_or counts t 0) more)

pub number-here : (counts : List ℕ) (t p : ℕ) → t < length counts → p < get_or counts t 0 → number_from (drop t counts) p ≡ p + 1
unfolding number_from
number-here counts t p h less = rw (drop-cons counts t 0 h, lt-ltb p (get_or counts t 0) less)

pub number-on : (counts : List ℕ) (t p : ℕ) → t < length counts → get_or counts t 0 ≤ p → number_from (drop t counts) p ≡ number_from (drop (t + 1) counts) (p - get_or counts t 0)
unfolding number_from
number-on counts t p h more = rw (add-one t, drop-cons counts t 0 h, le-ltb p (get_or counts t 0) more)

pub kind-past : (counts : List ℕ) (t k p : ℕ) → length counts ≤ t → kind_from k (drop t counts) p ≡ 0
unfolding kind_from
kind-past counts t k p h = rw (drop_of_length-le counts h)

pub number_past : (counts : List ℕ) (t p : ℕ) → length counts ≤ t → number_from (drop t counts) p ≡ 0
unfolding number_from
number_past counts t p h = rw (drop_of_length-le counts h)

-- what arrives

pub arrivals-on : (now : ℕ) (counts : List ℕ) (i : ℕ) (js : List Job) → i < length js
    → arrivals_from now counts i (drop i js) ≡ arrival_at now counts i (get_or js i no_job) ++ arrivals_from now counts (i + 1) (drop (i + 1) js)
unfolding arrivals_from
arrivals-on now counts i js h =
    ap (arrivals_from now counts i) (drop-cons js i no_job h)
    ∙ ap (λ (n : ℕ). arrival_at now counts i (get_or js i no_job) ++ arrivals_from now counts (i + 1) (drop n js)) (sym (add-one i))

pub arrivals-past : (now : ℕ) (counts : List ℕ) (i : ℕ) (js : List Job) → length js ≤ i → arrivals_from now counts i (drop i js) ≡ []
unfolding arrivals_from
arrivals-past now counts i js h = rw (drop_of_length-le js h)

-- what was written at the start of a buffer, taken from it

pub written-taken : {bytes old new : List ℕ} {r : ℕ} → Written bytes old new r → take r new ≡ bytes
written-taken {bytes = bytes} {old = old} {r = r} w = ap (take r) w.left ∙ take_at bytes (drop (length bytes) old) r (sym w.count)

-- the jobs at an instant

pub state-next : (now : ℕ) (js state next : List Job) → state ≡ state_at now js → next ≡ worked (arrived now state) → next ≡ state_at (now + 1) js
unfolding state_at
state-next now js state next at on = rw (add-one now) (on ∙ ap (λ (l : List Job). worked (arrived now l)) at)

pub state-first : (js state : List Job) → state ≡ started js → state ≡ state_at 0 js
unfolding state_at
state-first js state e = e

-- the lines of the ticks

pub lines_next : (n now count place : ℕ) (counts : List ℕ) (js next : List Job) → length js ≡ count → place ≡ chosen (arrived now js) → next ≡ worked (arrived now js)
    → tick_lines (n + 1) now counts js ≡ line_with now counts js count place ++ tick_lines n (now + 1) counts next
unfolding tick_lines
lines_next n now count place counts js next size at on =
    ap (λ (m : ℕ). tick_lines m now counts js) (add-one n)
    ∙ ap₂ (λ (l : List ℕ) (r : List Job). l ++ tick_lines n (now + 1) counts r) (ap₂ (line_with now counts js) size (sym at)) (sym on)

pub lines_none : (now : ℕ) (counts : List ℕ) (js : List Job) → tick_lines 0 now counts js ≡ []
unfolding tick_lines
lines_none now counts js = refl

-- nothing is shown from the last tick's end on
pub window-past : (js : List Job) (counts : List ℕ) (ticks from : ℕ) → ticks ≤ from → window_text js counts ticks from ≡ []
unfolding window_text
window-past js counts ticks from h =
    let none : ticks - from ≡ 0 = omega arith in
    rw none (lines_none from counts (state_at from js))

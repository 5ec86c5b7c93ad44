-- Laws of a list whose first places are overwritten: a part more, its length, and the lists that it is made from. Assumes nothing.
use Prim.Native.Nat.{ℕ, ◌+◌, ◌*◌, ◌≤◌}
use mathlib.Core.Path.{◌≡◌, sym, ap, ◌∙◌}
use mathlib.Core.List.{List, [], ◌∷◌, ◌++◌, append_assoc, append-nil}
use native.Mathlib.Omega.{arith}
use lib.IntN.{ℤ}
use lib.ListN.{length, take, drop, length-append, length-drop, take-append-drop}
use lib.Seq.{take_at, drop_at, drop-drop, length-take-le}
use Rattle.std.specs.Prelude.{Option, Some, None}
use Rattle.book.specs.Row.{splice}
use Rattle.model.specs.Log.{log_words, logged, used_after}
use Rattle.model.specs.declared.LogRow.{LogRow}
use Rattle.replay.specs.Replay.{joined, over}

-- a part more behind the first places
pub over-more : (new old more : List ℕ) (n q : ℕ) → length new ≡ n → length more ≡ q → splice (over new old) n q more ≡ over (new ++ more) old
unfolding splice
over-more new old more n q e f =
    rw (take_at new (drop (length new) old) n e, drop_at new (drop (length new) old) n e, drop-drop, length-append, append_assoc, f)

-- what fits leaves the length
pub length-over : (new old : List ℕ) → length new ≤ length old → length (over new old) ≡ length old
length-over new old h = simp (length-append, length-drop) (omega arith)

-- a list by its first places and the others
pub over-split : (new old l : List ℕ) (n : ℕ) → n ≤ length l → take n l ≡ new → drop n l ≡ drop n old → l ≡ over new old
over-split new old l n h e f =
    let long : length new ≡ n = sym (ap length e) ∙ length-take-le n l h in
    sym (take-append-drop n l) ∙ rw (e, f, long)

-- one list more
pub joined-more : (ls : List (List ℤ)) (l : List ℤ) → joined (ls ++ (l ∷ [])) ≡ joined ls ++ l
unfolding joined
joined-more [] l = append-nil l
joined-more (x ∷ ls) l = ap (λ (m : List ℤ). x ++ m) (joined-more ls l) ∙ sym (append_assoc x (joined ls) l)

-- the numbers behind the log rows used are the base's, also with the row that was due
pub behind-logged : (n : ℕ) (log base : List ℕ) (o : Option LogRow) → 4 * used_after o n ≤ length log → drop (4 * n) log ≡ drop (4 * n) base → drop (4 * used_after o n) (logged n o log) ≡ drop (4 * used_after o n) base
unfolding splice
behind-logged n log base None h e = e
behind-logged n log base (Some r) h e =
    let front : length (take (4 * n) log ++ log_words r) ≡ 4 * (n + 1) = length-append (take (4 * n) log) (log_words r) ∙ omega (arith, length-take-le (4 * n) log (omega arith)) in
    let next : 4 * n + 4 ≡ 4 * (n + 1) = omega arith in
    ap (drop (4 * (n + 1))) (sym (append_assoc (take (4 * n) log) (log_words r) (drop 4 (drop (4 * n) log))))
    ∙ drop_at (take (4 * n) log ++ log_words r) (drop 4 (drop (4 * n) log)) (4 * (n + 1)) front
    ∙ ap (drop 4) e ∙ drop-drop 4 (4 * n) base ∙ ap (λ (m : ℕ). drop m base) next

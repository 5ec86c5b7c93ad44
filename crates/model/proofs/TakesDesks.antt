-- Each figure is what the run takes, on both desks: of every list of the plain desk, and of the running desk's book and values under demand 3's premises.
-- Assumes nothing.
use Prim.Native.Nat.{ℕ, ◌≤◌, ◌<◌}
use mathlib.Core.Path.{◌≡◌, sym, ap, ◌∙◌, subst}
use mathlib.Core.List.{List, [], map}
use native.Mathlib.Omega.{arith}
use borrow.Author.Tests.{leb-true}
use lib.IntN.{ℤ, nat_abs}
use lib.ListN.{length, get_or-replicate}
use Rattle.quantity.specs.Limits.{points, most_energy}
use Rattle.quantity.specs.Meaning.{Each}
use Rattle.quantity.specs.Word.{signed}
use Rattle.quantity.proofs.Words.{signed-word, small-fits}
use Rattle.state.specs.Desk.{versions_in}
use Rattle.state.specs.Point.{free_point}
use Rattle.state.specs.Within.{StateIn}
use Rattle.state.specs.declared.Desk.{Desk}
use Rattle.state.specs.declared.PointRecord.{PointRecord}
use Rattle.state.specs.declared.VersionRecord.{VersionRecord}
use Rattle.state.proofs.Limits.{means-valid}
use Rattle.model.specs.Agreement.{Running, Chained, end, fresh, book_figure}
use Rattle.model.specs.Call.{Stores, Lent, Told, told}
use Rattle.model.specs.Plain.{Worked, points_of, groups_of, versions_of, energies_of, figure, outside, plain_end}
use Rattle.model.specs.Takes.{Takes, top, none, TakesFirst, TakesSecond, Taken, Added, IsSum, Figured, in_list, in_values, in_book, total_in}
use Rattle.model.proofs.Corollaries.{reached}
use Rattle.model.proofs.Fresh.{State, early, holding}
use Rattle.model.proofs.Invariant.{Holds, holds-valid}
use Rattle.model.proofs.Main.{agree}
use Rattle.model.proofs.Takes.{figured, added}

-- the plain desk's, of any list
pub figured-plain : (h : List Told) (quarters : ℕ) → Figured (points_of h) (groups_of h) (versions_of h) quarters (in_list (energies_of h)) (figure h) (outside h)
unfolding figure outside
figured-plain h n = figured (points_of h) (groups_of h) (versions_of h) (energies_of h) n

-- ---- the same read elsewhere

module _ (vs : List VersionRecord) (f g : ℕ → ℤ) (same : (i : ℕ) → i < length vs → f i ≡ g i) where
  reread : (low high p : ℕ) (A B : ℤ → Type 0) → ((v : ℤ) → A v → B v) → (v : ℤ) → Takes low high p vs f A v → Takes low high p vs g B v
  reread low high p A B so v (top i t e) = top i t (e ∙ same i t.one.within)
  reread low high p A B so v (none n w) = none n (so v w)

  first-reread : (p : ℕ) (v : ℤ) → TakesFirst vs f p v → TakesFirst vs g p v
  first-reread p v t = reread 2 3 p _ _ (λ x e. e) v t

  second-reread : (p : ℕ) (v : ℤ) → TakesSecond vs f p v → TakesSecond vs g p v
  second-reread p v t = reread 4 5 p _ _ (first-reread p) v t

abbrev taken-so : (A B : (point : ℕ) → ℤ → Type 0) → ((p : ℕ) (v : ℤ) → A p v → B p v) → Taken A → Taken B
taken-so A B so t = record { energy = t.energy; each = λ p lo hi. so p (t.energy p) (t.each p lo hi) }

module _ (ps : List PointRecord) (gs : List ℕ) (k : ℕ) (e : ℕ → ℤ) where
  same-sum : (f g x y : ℤ) → f ≡ g → x ≡ y → IsSum ps gs k e f x → IsSum ps gs k e g y
  same-sum f g x y a b s = record { figures = λ z. sym a ∙ s.figures z; outsides = λ z. sym b ∙ s.outsides z }

-- ---- the running desk's

module _ (r : Running) (h : List Told) (H : Holds r.desk r.stores h) where
  -- a version's row of values has its submission's energies
  same-reading : (q i : ℕ) → q < r.desk.frame.opening.quarters → i < length (versions_in r.desk) → in_values r q i ≡ in_list (energies_of h) q i
  same-reading q i a b =
      let S = H.kept.stored in
      let z = in_list (energies_of h) q i in
      ap signed ((S.reads i b).words q a) ∙ signed-word z (small-fits z (omega (arith, leb-true (nat_abs z) most_energy (S.small i q))))

  figured-here : (quarters : ℕ) → Figured r.desk.points r.desk.frame.groups (versions_in r.desk) quarters (in_list (energies_of h)) (figure h) (outside h)
  figured-here n = subst (λ (w : Worked). Figured w.points w.groups w.versions n (in_list (energies_of h)) (figure h) (outside h)) (sym H.works) (figured-plain h n)

  figured-held : ((run k q : ℕ) → 1 ≤ run → run ≤ 2 → k < 81 → q < r.desk.frame.opening.quarters → figure h run k q ≡ in_book r run k q)
      → ((run q : ℕ) → 1 ≤ run → run ≤ 2 → q < r.desk.frame.opening.quarters → outside h run q ≡ total_in r run q)
      → Figured r.desk.points r.desk.frame.groups (versions_in r.desk) r.desk.frame.opening.quarters (in_values r) (in_book r) (total_in r)
  figured-held figures totals =
      let F = figured-here r.desk.frame.opening.quarters in
      let vs = versions_in r.desk in
      record {
        first = λ k q a b t.
            same-sum r.desk.points r.desk.frame.groups.first k t.energy _ _ _ _ (figures 1 k q (omega arith) (omega arith) a b) (totals 1 q (omega arith) (omega arith) b)
            (F.first k q a b (taken-so _ _ (first-reread vs (in_values r q) (in_list (energies_of h) q) (λ i l. same-reading q i b l)) t));
        second = λ k q a b t.
            same-sum r.desk.points r.desk.frame.groups.second k t.energy _ _ _ _ (figures 2 k q (omega arith) (omega arith) a b) (totals 2 q (omega arith) (omega arith) b)
            (F.second k q a b (taken-so _ _ (second-reread vs (in_values r q) (in_list (energies_of h) q) (λ i l. same-reading q i b l)) t));
      }

pub figured-running : (s : Stores) (l : List Lent) → Chained (fresh s) l → let r = end (fresh s) l in
    Figured r.desk.points r.desk.frame.groups (versions_in r.desk) r.desk.frame.opening.quarters (in_values r) (in_book r) (total_in r)
unfolding book_figure
figured-running s l c = go (reached s l c)
  where
    r : Running
    r = end (fresh s) l

    go : State (end (fresh s) l) (plain_end [] (map told l)) → Figured r.desk.points r.desk.frame.groups (versions_in r.desk) r.desk.frame.opening.quarters (in_values r) (in_book r) (total_in r)
    go (early a b) =
        let none = ap (λ (d : Desk). d.frame.opening.quarters) a in
        record { first = λ k q _ z t. absurd (omega (arith, none, z)); second = λ k q _ z t. absurd (omega (arith, none, z)) }
    go (holding H) =
        figured-held r (plain_end [] (map told l)) H
        (λ run k q lo hi row z. sym ((agree s l c).figures run k q lo hi row z)) (λ run q lo hi z. sym ((agree s l c).sum run q lo hi z))

-- its points all have a line, so the premises can always be met
pub added-running : (s : Stores) (l : List Lent) → Chained (fresh s) l → (gs : List ℕ) (k : ℕ) (e : ℕ → ℤ) → Added (end (fresh s) l).desk.points gs k e
added-running s l c gs k e = added (end (fresh s) l).desk.points gs k e (go (end (fresh s) l) (reached s l c))
  where
    go : (r : Running) → State r (plain_end [] (map told l)) → Each free_point (λ (p : PointRecord). StateIn p.state) r.desk.points
    go r (early a b) = rw a (λ i z. rw (get_or-replicate points i free_point free_point z) tt)
    go r (holding H) = ((means-valid r.desk).holds (holds-valid r.desk r.stores (plain_end [] (map told l)) H)).1.0

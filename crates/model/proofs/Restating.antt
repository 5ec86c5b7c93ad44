-- Versions of which only statuses change: what holds of them stays. And close and issue, accepted. Assumes nothing.
use Prim.Native.Nat.{ℕ, ◌*◌, ◌≤◌}
use mathlib.Core.Path.{◌≡◌, refl, sym, ap, ◌∙◌, subst}
use mathlib.Core.Bool.{◌&&◌}
use mathlib.Core.List.{List, []}
use native.Mathlib.Omega.{arith}
use borrow.Author.Tests.{not-false}
use lib.IntN.{ℤ, pos}
use lib.ListN.{length, get_or}
use Rattle.quantity.specs.Limits.{run_ok, day_ok}
use Rattle.quantity.specs.Lists.{fold}
use Rattle.quantity.proofs.Tests.{and-right}
use Rattle.state.specs.Change.{settle, settled_by, settled_desk}
use Rattle.state.specs.Desk.{rows_in, versions_in, desk_with, the_day, the_closed, the_issued, flagged}
use Rattle.state.specs.Valid.{version_record_ok}
use Rattle.state.specs.Version.{record_at}
use Rattle.state.specs.declared.Opening.{Opening}
use Rattle.state.specs.declared.PointRecord.{PointRecord}
use Rattle.state.specs.declared.VersionRecord.{VersionRecord}
use Rattle.state.proofs.Kept.{settle-same, settled-versions}
use Rattle.state.proofs.Picks.{selected-same}
use Rattle.model.specs.Call.{closes, issues, lengths_of}
use Rattle.model.specs.Plain.{worked, after, energies_of, log_of, schedules_of}
use Rattle.model.proofs.Amends.{Stored}
use Rattle.model.proofs.Books.{Reads, booked-same}
use Rattle.model.proofs.Figures.{figure-versions}
use Rattle.model.proofs.Invariant.{Versioned, Granted, tenanted, finish}
use Rattle.model.proofs.Selections.{Restated, restated-length, restated-at, restated-all, settled-restated}
use Rattle.model.proofs.Lists.{length-map_first}

module _ (vs ws : List VersionRecord) (e : Restated vs ws) where
  pub same-row : (i : ℕ) → (record_at ws i).row.0 ≡ (record_at vs i).row.0
  same-row i = ap (λ (v : VersionRecord). v.row.0) (restated-at vs ws e i)

  pub versioned-restated : (o : Opening) (ps : List PointRecord) → Versioned o ps vs → Versioned o ps ws
  versioned-restated o ps V' =
      let n = restated-length vs ws e in
      record {
        count = omega (arith, V'.count);
        rows = omega (arith, V'.rows);
        each = restated-all vs ws e (version_record_ok (rows_in o)) (λ v. refl) V'.each;
        homes = restated-all vs ws e (tenanted ps) (λ v. refl) V'.homes;
      }

  pub stored-restated : (q : ℕ) (values : List ℕ) (es : List (List ℤ)) → Stored q values vs es → Stored q values ws es
  stored-restated q values es S =
      let n = restated-length vs ws e in
      record {
        long = S.long ∙ sym n;
        small = S.small;
        rows = λ i l. same-row i ∙ S.rows i (omega arith);
        reads = λ i l. subst (λ (r : ℕ). Reads q values (r * q) (λ (j : ℕ). get_or (get_or es i []) j (pos 0))) (sym (same-row i)) (S.reads i (omega arith));
      }

-- no version changes
pub close-granted : (r e : ℕ) → Granted (closes r e)
unfolding after fold
close-granted r e d s h st H o P =
    let K = H.kept in
    record {
      reply = refl;
      holds =
          finish d s h H (record { call = closes r e; lengths = lengths_of st }) (desk_with (desk_with d (the_closed (flagged r d.frame.closed))) (the_day e)) s H.table H.used refl
          (record {
            framed = record { opening = K.framed.opening; day = and-right (run_ok r) _ (not-false (run_ok r && day_ok e) P.1.0); used = K.framed.used };
            grouped = K.grouped;
            pointed = K.pointed;
            versioned = K.versioned;
            stored = K.stored;
            booked = K.booked;
            values_long = K.values_long;
            log_long = K.log_long;
            logged = K.logged;
            scheduled = K.scheduled;
          });
    }

pub issue-granted : (r e : ℕ) → Granted (issues r e)
unfolding after fold
issue-granted r e d s h st H o P =
    let fields = not-false (run_ok r && day_ok e) P.1.0 in
    let K = H.kept in
    let T = H.table in
    let vs = versions_in d in
    let ws = settled_by r vs in
    let long : d.frame.count ≤ length d.versions = omega (arith, T.size, T.count) in
    let d' = desk_with (desk_with (settled_desk d r) (the_issued (flagged r d.frame.issued))) (the_day e) in
    let same : versions_in d' ≡ ws = settled-versions d r long in
    record {
      reply = refl;
      holds =
          finish d s h H (record { call = issues r e; lengths = lengths_of st }) d' s
          (record { size = length-map_first (settle r vs) d.versions d.frame.count long ∙ T.size; count = T.count })
          H.used
          (ap (λ (l : List VersionRecord). worked d.frame.opening e d.points d.frame.groups l (energies_of h) (log_of h) d.frame.closed (flagged r d.frame.issued) (schedules_of h)) same)
          (record {
            framed = record { opening = K.framed.opening; day = and-right (run_ok r) _ fields; used = K.framed.used };
            grouped = K.grouped;
            pointed = K.pointed;
            versioned = versioned-restated vs ws (settled-restated r vs) d.frame.opening d.points K.versioned;
            stored = stored-restated vs ws (settled-restated r vs) d.frame.opening.quarters s.values (energies_of h) K.stored;
            booked = booked-same d.frame.opening.quarters s.book _ _ (λ run k j _ _ _ _. figure-versions d.points d.frame.groups vs ws (energies_of h) run (λ i. selected-same run i vs ws (λ x. settle-same r vs x i)) k j) K.booked;
            values_long = K.values_long;
            log_long = K.log_long;
            logged = K.logged;
            scheduled = K.scheduled;
          });
    }

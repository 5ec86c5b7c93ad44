-- The loop over a file: what remains, done from here on, gives what the whole gives. Assumes nothing.
use Prim.Native.Nat.{ℕ, suc, ◌+◌, ◌-◌, ◌<◌, ◌≤◌}
use mathlib.Core.Path.{◌≡◌, refl, sym, ap, ◌∙◌}
use mathlib.Core.Bool.{cond}
use mathlib.Core.List.{List, [], ◌∷◌, map}
use native.Mathlib.Decide.{ℕ_discrete}
use native.Mathlib.Numerals.{add-one}
use native.Mathlib.Omega.{arith}
use borrow.Author.Tests.{eq-eqb, ne_eqb, le-leb}
use lib.Dec.{eqb, leb-suc-suc, leb-suc-zero}
use lib.ListN.{length, take, drop, set, length-append, length-drop, length-map, drop_of_length-le}
use lib.Seq.{take-nil}
use Rattle.quantity.specs.Word.{word, signed}
use Rattle.message.specs.Call.{Sent, parse}
use Rattle.message.specs.File.{Ending, whole, stopped, stop, calls_in}
use Rattle.message.specs.Named.{groups_of}
use Rattle.message.specs.declared.DeskCall.{DeskCall}
use Rattle.message.specs.Read.{Read, got, refused}
use Rattle.message.proofs.Calls.{parse-read}
use Rattle.message.proofs.Files.{calls-none, calls-next, calls-stop}
use Rattle.message.proofs.Placed.{offset-is}
use Rattle.state.specs.declared.Desk.{Desk}
use Rattle.model.specs.Call.{answer_number}
use Rattle.model.specs.declared.Answer.{Answer}
use Rattle.checks.specs.Stepped.{stores_of}
use Rattle.message.specs.Series.{filled}
use Rattle.reader.specs.Reader.{Reading, padded, read_at, series_after}
use Rattle.std.specs.Prelude.{Some, None, Ok, Err}
use Rattle.message.specs.declared.FileRefusal.{FileRefusal}
use Rattle.reader.specs.declared.CallRead.{CallRead}
use Rattle.reader.proofs.Theorems.{Stepped, reader-end, reader-call, reader-refused, end-keeps, reader-keeps}
use Rattle.dispatch.specs.Asked.{asked}
use Rattle.replay.specs.Given.{given_in}
use Rattle.replay.specs.Play.{Playing, played, play}
use Rattle.replay.specs.Replay.{calls_for, ending_of}
use Rattle.replay.specs.Run.{running_of, Handed, playing_of, ended_by, Ran}
use Rattle.replay.specs.declared.Ending.{Ending as EndingOf}
use Rattle.replay.specs.declared.Ending.TheVariants.{End, Refused, Full}
use Rattle.replay.proofs.Reached.{Reached, reached-next}
use Rattle.replay.proofs.Sendings.{same-call}

-- stores and buffers of the same lengths
pub record Sized (p q : Playing) : Type 0 where
  pub values : length q.running.stores.values ≡ length p.running.stores.values
  pub book : length q.running.stores.book ≡ length p.running.stores.book
  pub log : length q.running.stores.log ≡ length p.running.stores.log
  pub schedules : length q.running.stores.schedules ≡ length p.running.stores.schedules
  pub series : length q.series ≡ length p.series
  pub answers : length q.answers ≡ length p.answers

-- the calls before `at` are answered
pub record Going (s : List ℕ) (start p : Playing) (at : ℕ) : Type 0 where
  pub inside : at ≤ length s
  pub few : p.answered ≤ length start.answers
  pub sized : Sized start p
  pub reached : Reached start.running.stores p.running
  pub same : play start (calls_for s (length start.series) (length start.answers))
      ≡ play p (take (length start.answers - p.answered) (given_in (calls_in (length start.series) (drop at s)).calls))
  pub ending : ending_of (length s) (length start.answers) (calls_in (length start.series) s)
      ≡ ending_of (length s) (length start.answers - p.answered) (calls_in (length start.series) (drop at s))

pub going : (s : List ℕ) (p : Playing) → p.answered ≡ 0 → Reached p.running.stores p.running → Going s p p 0
going s p e r =
    let z : length p.answers - p.answered ≡ length p.answers = omega arith in
    record {
      inside = omega arith;
      few = omega arith;
      sized = record { values = refl; book = refl; log = refl; schedules = refl; series = refl; answers = refl };
      reached = r;
      same = rw z;
      ending = rw z;
    }

-- one call less, room for one answer less
ending-next : (n k : ℕ) (c : Sent) (calls : List Sent) (left : List ℕ) (e : Ending) →
    ending_of n (suc k) (record { calls = c ∷ calls; left = left; ending = e }) ≡ ending_of n k (record { calls = calls; left = left; ending = e })
ending-next n k c calls left whole = rw (leb-suc-suc (length calls) k)
ending-next n k c calls left (stopped x) = rw (leb-suc-suc (suc (length calls)) k)

-- no room for an answer, and a call that would need one
ending-full : (n : ℕ) (c : Sent) (calls : List Sent) (left : List ℕ) (e : Ending) → ending_of n 0 (record { calls = c ∷ calls; left = left; ending = e }) ≡ Full
ending-full n c calls left whole = rw (leb-suc-zero (length calls))
ending-full n c calls left (stopped x) = rw (leb-suc-zero (suc (length calls)))

-- bytes are left, and no room for an answer
bytes-left : (n room : ℕ) (s : List ℕ) → 0 < length s → ending_of n 0 (calls_in room s) ≡ Full
bytes-left n room s h = go (parse room s) refl
  where
    go : (d : Read Sent) → parse room s ≡ d → ending_of n 0 (calls_in room s) ≡ Full
    go (got c r) e = rw (calls-next room s e) (ending-full n c (calls_in room r).calls (calls_in room r).left (calls_in room r).ending)
    go (refused x) e = rw (calls-stop room s h e)

same-room : {s groups : List ℕ} {at room other n m : ℕ} {d : DeskCall} → room ≡ other → Stepped s at room d n m groups → Stepped s at other d n m groups
same-room e t = rw e at t

module _ {s : List ℕ} {start p : Playing} {at : ℕ} (w : Going s start p at) where
  -- the next call
  goes : {q : Playing} {n m : ℕ} {groups : List ℕ} {d : DeskCall} (t : Stepped s at (length start.series) d n m groups) → p.answered < length start.answers →
      q ≡ played p (record { call = d; groups = groups_of (padded t.call.fields); energies = t.call.energies }) → Sized p q → Going s start q m
  unfolding play played given_in
  goes {q} {m = m} {d = d} t h e z =
      let room = length start.series in
      let most = length start.answers in
      let rest = calls_in room (drop m s) in
      let less : most - p.answered ≡ suc (most - suc p.answered) = omega arith in
      record {
        inside = t.within;
        few = rw e (omega arith);
        sized = record {
          values = z.values ∙ w.sized.values;
          book = z.book ∙ w.sized.book;
          log = z.log ∙ w.sized.log;
          schedules = z.schedules ∙ w.sized.schedules;
          series = z.series ∙ w.sized.series;
          answers = z.answers ∙ w.sized.answers;
        };
        reached = rw e (reached-next start.running.stores p.running (record { call = d; groups = groups_of (padded t.call.fields); energies = t.call.energies }) w.reached);
        same = w.same ∙ rw (t.calls, t.named, less, e);
        ending = w.ending ∙ rw (t.calls, less, e) (ending-next (length s) (most - suc p.answered) t.call rest.calls rest.left rest.ending);
      }

  -- a call that was read
  stepped : {read : CallRead} → read_at s at (length p.series) ≡ Ok (Some read) → Stepped s at (length start.series) read.call read.count read.next read.groups
  stepped e = same-room w.sized.series (reader-call s at (length p.series) e)

  -- its energies stand in the first places of the buffer
  filling : {read : CallRead} (e : read_at s at (length p.series) ≡ Ok (Some read)) → series_after s at p.series ≡ filled (stepped e).call.energies p.series
  filling e = rw (w.sized.series, (stepped e).parsed)

  -- so many that they have room there
  pub energies-inside : {read : CallRead} {series : List ℕ} → read_at s at (length p.series) ≡ Ok (Some read) → series ≡ series_after s at p.series → read.count ≤ length series
  energies-inside e f =
      let t = stepped e in
      rw (f, filling e, length-append (map word t.call.energies) (drop (length t.call.energies) p.series), length-map t.call.energies word)
      (omega (arith, t.count))

  -- it is answered
  pub again : {x : ℕ} {read : CallRead} {series : List ℕ} {answer : Answer} {desk : Desk} {values book log schedules : List ℕ} → p.answered < length start.answers →
      read_at s at (length p.series) ≡ Ok (Some read) → series ≡ series_after s at p.series →
      Handed p.running (asked read.call read.groups (map signed (take read.count series))) answer (running_of desk (stores_of values book log schedules)) → x ≡ answer_number answer →
      Sized p (playing_of desk (stores_of values book log schedules) series (set p.answers p.answered x) (p.answered + 1)) →
      Going s start (playing_of desk (stores_of values book log schedules) series (set p.answers p.answered x) (p.answered + 1)) read.next
  unfolding played
  again {read = read} h e g v x z =
      let t = stepped e in
      let c = t.call in
      let u = rw (same-call c (parse-read (length start.series) (drop at s) t.parsed).carried p.series read.call t.count t.beside (g ∙ filling e)) at v in
      goes t h (rw (add-one, u.running, g ∙ filling e, x, u.answered)) z

  -- nothing remains to be done
  done : {e : EndingOf} → take (length start.answers - p.answered) (given_in (calls_in (length start.series) (drop at s)).calls) ≡ [] →
      e ≡ ending_of (length s) (length start.answers - p.answered) (calls_in (length start.series) (drop at s)) → Ran s start p e
  unfolding play given_in
  done n e = record { played = sym (w.same ∙ rw n); ended = e ∙ sym w.ending }

  at-end : at ≡ length s → Ran s start p End
  unfolding given_in
  at-end e =
      let c : calls_in (length start.series) (drop at s) ≡ _ = ap (calls_in (length start.series)) (drop_of_length-le s {i = at} (omega arith)) ∙ calls-none (length start.series) in
      done (rw (c, take-nil)) (rw (c, le-leb 0 (length start.answers - p.answered) (omega arith)))

  -- the answers are full
  pub full : length start.answers ≤ p.answered → Ran s start p (cond (eqb at (length s)) End Full)
  full h = go (ℕ_discrete at (length s))
    where
      none : length start.answers - p.answered ≡ 0
      none = omega arith

      go : Dec (at ≡ length s) → Ran s start p (cond (eqb at (length s)) End Full)
      go (yes e) = rw (eq-eqb at (length s) e) (at-end e)
      go (no n) =
          let some : 0 < length (drop at s) = rw length-drop (omega (arith, w.inside, n)) in
          rw (ne_eqb at (length s) n) (done (rw none) (rw none (sym (bytes-left (length s) (length start.series) (drop at s) some))))

  -- the file ends
  pub ended : {series : List ℕ} → p.answered < length start.answers → read_at s at (length p.series) ≡ Ok None → series ≡ series_after s at p.series →
      Ran s start (record { running = p.running; series = series; answers = p.answers; answered = p.answered }) End
  ended h e f = rw (f ∙ end-keeps s at p.series e) (at-end (reader-end s at (length p.series) e))

  -- a call is refused
  pub left-off : {r : FileRefusal} {series : List ℕ} → p.answered < length start.answers → read_at s at (length p.series) ≡ Err r → series ≡ series_after s at p.series →
      Ran s start (record { running = p.running; series = series; answers = p.answers; answered = p.answered }) (Refused r.cause r.offset)
  unfolding given_in
  left-off {r} h e f =
      let g = reader-refused s at (length p.series) w.inside e in
      let c : calls_in (length start.series) (drop at s) ≡ stop (drop at s) r.cause = rw w.sized.series at g.0 in
      rw (f ∙ reader-keeps s at p.series e)
      (done (rw (c, take-nil)) (rw (c, g.1, offset-is s at w.inside, le-leb 1 (length start.answers - p.answered) (omega arith))))

  -- no call is read
  pub unread : (t : Reading) {series : List ℕ} → p.answered < length start.answers → ((r : CallRead) → t ≡ Ok (Some r) → ⊥) → read_at s at (length p.series) ≡ t →
      series ≡ series_after s at p.series → Ran s start (record { running = p.running; series = series; answers = p.answers; answered = p.answered }) (ended_by t)
  unread (Ok (Some r)) h o e f = absurd (o r refl)
  unread (Ok None) h o e f = ended h e f
  unread (Err r) h o e f = left-off h e f

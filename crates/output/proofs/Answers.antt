-- Every answer's number is below 100. Assumes nothing.
use Prim.Native.Nat.{ℕ, zero, suc, ◌<◌}
use mathlib.Core.List.{List, [], ◌∷◌}
use lib.Dec.{lit<}
use lib.ListN.{get_or}
use Rattle.state.specs.Status.{status_number}
use Rattle.state.specs.declared.Status.{Status}
use Rattle.state.specs.declared.Status.TheVariants.{Check, Settlement, Settled, Correction, CorrectionSettled}
use Rattle.model.specs.Call.{Reply, answer_number}
use Rattle.model.specs.declared.Answer.{Answer}
use Rattle.model.specs.declared.Answer.TheVariants.{Accepted, HasStatus, Refused}
use Rattle.model.proofs.CauseNumbers.{number-in}
use Rattle.replay.specs.Replay.{numbers_of}

status-short : (s : Status) → status_number s < 100
status-short Check = lit< tt
status-short Settlement = lit< tt
status-short Settled = lit< tt
status-short Correction = lit< tt
status-short CorrectionSettled = lit< tt

answer-short : (a : Answer) → answer_number a < 100
answer-short Accepted = lit< tt
answer-short (HasStatus s) = status-short s
answer-short (Refused c) = (number-in c).1

pub answers-short : (l : List Reply) (i : ℕ) → get_or (numbers_of l) i 0 < 100
answers-short [] i = lit< tt
answers-short (r ∷ l) zero = answer-short r.answer
answers-short (r ∷ l) (suc i) = answers-short l i

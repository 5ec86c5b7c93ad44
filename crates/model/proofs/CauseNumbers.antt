-- A cause's number is not 0, which is an accepted call's, and has at most two digits. Assumes nothing.
use Prim.Native.Nat.{◌≤◌, ◌<◌}
use lib.Dec.{lit≤, lit<}
use Rattle.model.specs.Call.{cause_number}
use Rattle.model.specs.declared.Cause.{Cause}
use Rattle.model.specs.declared.Cause.TheVariants.{NotOpen, WrongLength, BadField, OpenAgain, BadOpening, PastDay, AfterCorrection, TooLate, PointActive, SameSeries, NotActive, HasVersion, TooEarly, VersionPresent, VersionBelow, NoVersion, NoticeBelow, NotCheckData, NoRow, NoLogRow, CloseTooEarly, AlreadyClosed, FirstRunOpen, NotClosed, AlreadyIssued}

pub number-in : (x : Cause) → (1 ≤ cause_number x) × (cause_number x < 100)
number-in NotOpen = (lit≤ tt, lit< tt)
number-in WrongLength = (lit≤ tt, lit< tt)
number-in BadField = (lit≤ tt, lit< tt)
number-in OpenAgain = (lit≤ tt, lit< tt)
number-in BadOpening = (lit≤ tt, lit< tt)
number-in PastDay = (lit≤ tt, lit< tt)
number-in AfterCorrection = (lit≤ tt, lit< tt)
number-in TooLate = (lit≤ tt, lit< tt)
number-in PointActive = (lit≤ tt, lit< tt)
number-in SameSeries = (lit≤ tt, lit< tt)
number-in NotActive = (lit≤ tt, lit< tt)
number-in HasVersion = (lit≤ tt, lit< tt)
number-in TooEarly = (lit≤ tt, lit< tt)
number-in VersionPresent = (lit≤ tt, lit< tt)
number-in VersionBelow = (lit≤ tt, lit< tt)
number-in NoVersion = (lit≤ tt, lit< tt)
number-in NoticeBelow = (lit≤ tt, lit< tt)
number-in NotCheckData = (lit≤ tt, lit< tt)
number-in NoRow = (lit≤ tt, lit< tt)
number-in NoLogRow = (lit≤ tt, lit< tt)
number-in CloseTooEarly = (lit≤ tt, lit< tt)
number-in AlreadyClosed = (lit≤ tt, lit< tt)
number-in FirstRunOpen = (lit≤ tt, lit< tt)
number-in NotClosed = (lit≤ tt, lit< tt)
number-in AlreadyIssued = (lit≤ tt, lit< tt)

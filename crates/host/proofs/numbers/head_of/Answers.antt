-- `head_of` meets its contract, by the call. Assumes nothing.
use mathlib.Core.Path.{sym, ap}
use Rattle.host.specs.Call.{head_of}
use Rattle.host.proofs.numbers.head_of.Goals as goal

pub returns-in-Open : goal.returns-in-Open
returns-in-Open c = sym (ap head_of c.in-Open.is)

pub returns-in-Activate : goal.returns-in-Activate
returns-in-Activate c = sym (ap head_of c.in-Activate.is)

pub returns-in-Deactivate : goal.returns-in-Deactivate
returns-in-Deactivate c = sym (ap head_of c.in-Deactivate.is)

pub returns-in-Submit : goal.returns-in-Submit
returns-in-Submit c = sym (ap head_of c.in-Submit.is)

pub returns-in-Notice : goal.returns-in-Notice
returns-in-Notice c = sym (ap head_of c.in-Notice.is)

pub returns-in-Assign : goal.returns-in-Assign
returns-in-Assign c = sym (ap head_of c.in-Assign.is)

pub returns-in-Close : goal.returns-in-Close
returns-in-Close c = sym (ap head_of c.in-Close.is)

pub returns-in-Issue : goal.returns-in-Issue
returns-in-Issue c = sym (ap head_of c.in-Issue.is)

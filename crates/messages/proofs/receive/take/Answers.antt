use Rattle.messages.proofs.Running.{runs-of-letters}
use Rattle.messages.proofs.receive.take.Goals as goal

pub returns-in_default-clause-runs : goal.returns-in_default-clause-runs
returns-in_default-clause-runs c = runs-of-letters

pub returns-in_err-take_message-clause-runs : goal.returns-in_err-take_message-clause-runs
returns-in_err-take_message-clause-runs c = runs-of-letters

pub returns-clause-runs : goal.returns-clause-runs
returns-clause-runs c = runs-of-letters

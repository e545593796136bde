use Rattle.clock_time.proofs.Tests.{tests}
use Rattle.list_times.specs.Request.{read_request}
use Rattle.list_times.proofs.request.read_request.Goals as goal

pub returns-in-0 : goal.returns-in-0
unfolding read_request
returns-in-0 c = search tests

pub returns-in-2 : goal.returns-in-2
unfolding read_request
returns-in-2 c = search (tests, c.read_argument.ensures)

pub returns-in_default : goal.returns-in_default
unfolding read_request
returns-in_default c = search tests

use Rattle.user_ctx.proofs.Made.{nothing}
use Rattle.user_ctx.proofs.window.Window.new.Goals as goal

pub returns-clause-is : goal.returns-clause-is
returns-clause-is c = λ pages. nothing pages _ c.requires.aligned c.requires.range

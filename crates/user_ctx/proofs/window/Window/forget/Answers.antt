use Rattle.user_ctx.proofs.Made.{forgot}
use Rattle.user_ctx.proofs.window.Window.forget.Goals as goal

pub returns-clause-is : goal.returns-clause-is
returns-clause-is c = forgot c.args.addr _ _ _ _ _ _ _ c.requires c.forget_word.ensures.base c.forget_word-2.ensures.base c.forget_word.ensures.is c.forget_word-2.ensures.is

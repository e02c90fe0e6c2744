use Rattle.page_set.specs.Pages.{bytes_2}
use Rattle.page_set.proofs.Entries.{kept_cached}
use Rattle.page_set.proofs.cached.CachedPages.cached_store_2.Goals as goal

pub invariant_of-self : goal.invariant_of-self
invariant_of-self c = (c.store.ensures.cached, kept_cached c.store.result _ _ c.args.addr c.self.inside.count (bytes_2 c.args.value) c.store.ensures.is c.store.ensures.not c.self.invariant.1)

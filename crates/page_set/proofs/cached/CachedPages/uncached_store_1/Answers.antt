use Rattle.page_set.specs.Pages.{bytes_1}
use Rattle.page_set.proofs.Entries.{kept_cached}
use Rattle.page_set.proofs.cached.CachedPages.uncached_store_1.Goals as goal

pub invariant_of-self : goal.invariant_of-self
invariant_of-self c = (c.uncached_store-is_stored.ensures.cached, kept_cached c.uncached_store-is_stored.result _ _ c.args.addr c.self.inside.count (bytes_1 c.args.value) c.uncached_store-is_stored.ensures.is c.uncached_store-is_stored.ensures.not c.self.invariant.1)

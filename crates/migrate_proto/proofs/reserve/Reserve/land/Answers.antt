use Rattle.std.proofs.Common.{◌==◌, refl, sym, ap, ◌∙◌}
use Rattle.std.specs.List.{position}
use Rattle.migrate_proto.proofs.KeptLemmas.{pages_within, gone_kept, gone_had, gone_map, gone_pages, none_had, none_map, none_pages}
use Rattle.migrate_proto.proofs.reserve.Reserve.land.Goals as goal

pub overflow_sub-self : goal.overflow_sub-self
overflow_sub-self c = pages_within c.self.inside.entries.items c.args.self.now _ c.self.inside.total c.self.view_is c.self.invariant c.args.pid c.in-Some.place c.remove-pages.result (c.in-Some.ensures ∙ ap (position (λ e. e.0 == c.args.pid)) c.deref.ensures.value) c.remove-pages.ensures.value

pub invariant_of-self : goal.invariant_of-self
invariant_of-self c = gone_kept c.self.inside.entries.items c.args.self.now _ c.self.inside.total c.self.view_is c.self.invariant c.args.pid c.in-Some.place c.remove-pages.result (c.in-Some.ensures ∙ ap (position (λ e. e.0 == c.args.pid)) c.deref.ensures.value) c.remove-pages.ensures.value c.remove-pages.new.self.items c.remove-pages.ensures.items _ c.remove-pages.ensures.capacity

pub returns-in-Some-clause-had : goal.returns-in-Some-clause-had
returns-in-Some-clause-had c = (λ e. gone_had c.self.inside.entries.items c.args.self.now _ c.self.inside.total c.self.view_is c.self.invariant c.args.pid c.in-Some.place c.remove-pages.result (c.in-Some.ensures ∙ ap (position (λ e. e.0 == c.args.pid)) c.deref.ensures.value) c.remove-pages.ensures.value, λ e. refl)

pub returns-in-Some-clause-gone : goal.returns-in-Some-clause-gone
returns-in-Some-clause-gone c = gone_map c.self.inside.entries.items c.args.self.now _ c.self.inside.total c.self.view_is c.self.invariant c.args.pid c.in-Some.place c.remove-pages.result (c.in-Some.ensures ∙ ap (position (λ e. e.0 == c.args.pid)) c.deref.ensures.value) c.remove-pages.ensures.value c.remove-pages.new.self.items c.remove-pages.ensures.items

pub returns-in-Some-clause-pages : goal.returns-in-Some-clause-pages
returns-in-Some-clause-pages c = gone_pages c.self.inside.entries.items c.args.self.now _ c.self.inside.total c.self.view_is c.self.invariant c.args.pid c.in-Some.place c.remove-pages.result (c.in-Some.ensures ∙ ap (position (λ e. e.0 == c.args.pid)) c.deref.ensures.value) c.remove-pages.ensures.value c.remove-pages.new.self.items c.remove-pages.ensures.items

pub returns-in-None-clause-had : goal.returns-in-None-clause-had
returns-in-None-clause-had c = (λ e. absurd (let f = none_had c.self.inside.entries.items c.args.self.now _ c.self.inside.total c.self.view_is c.self.invariant c.args.pid (c.in-None.ensures ∙ ap (position (λ e. e.0 == c.args.pid)) c.deref.ensures.value) in cc), λ e. sym (none_had c.self.inside.entries.items c.args.self.now _ c.self.inside.total c.self.view_is c.self.invariant c.args.pid (c.in-None.ensures ∙ ap (position (λ e. e.0 == c.args.pid)) c.deref.ensures.value)) ∙ e)

pub returns-in-None-clause-gone : goal.returns-in-None-clause-gone
returns-in-None-clause-gone c = none_map c.self.inside.entries.items c.args.self.now _ c.self.inside.total c.self.view_is c.self.invariant c.args.pid (c.in-None.ensures ∙ ap (position (λ e. e.0 == c.args.pid)) c.deref.ensures.value)

pub returns-in-None-clause-pages : goal.returns-in-None-clause-pages
returns-in-None-clause-pages c = none_pages c.self.inside.entries.items c.args.self.now _ c.self.inside.total c.self.view_is c.self.invariant c.args.pid (c.in-None.ensures ∙ ap (position (λ e. e.0 == c.args.pid)) c.deref.ensures.value)

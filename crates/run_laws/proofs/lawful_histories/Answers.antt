use Rattle.run_laws.proofs.Stories.{hello_lawful, fork_lawful, move_lawful, break_lawful, poke_lawful}
use Rattle.run_laws.proofs.GossipStories.{push_lawful, denied_lawful, denied_grounded}
use Rattle.run_laws.proofs.lawful_histories.Goals as goal

pub returns-clause-hello : goal.returns-clause-hello
returns-clause-hello c = hello_lawful

pub returns-clause-fork : goal.returns-clause-fork
returns-clause-fork c = fork_lawful

pub returns-clause-moved : goal.returns-clause-moved
returns-clause-moved c = move_lawful

pub returns-clause-broken : goal.returns-clause-broken
returns-clause-broken c = break_lawful

pub returns-clause-heeded : goal.returns-clause-heeded
returns-clause-heeded c = poke_lawful

pub returns-clause-chosen : goal.returns-clause-chosen
returns-clause-chosen c = push_lawful

pub returns-clause-denied : goal.returns-clause-denied
returns-clause-denied c = denied_lawful

pub returns-clause-grounds : goal.returns-clause-grounds
returns-clause-grounds c = denied_grounded

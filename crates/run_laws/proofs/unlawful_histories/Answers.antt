use Rattle.run_laws.proofs.GossipStories.{unchosen_not, unsent_not, invented_not, wrong_not, walk_not, fault_not, valued_not, unpoked_not, loose_over}
use Rattle.run_laws.proofs.Stories.{left_out_not}
use Rattle.run_laws.proofs.unlawful_histories.Goals as goal

pub returns-clause-left_out : goal.returns-clause-left_out
returns-clause-left_out c = left_out_not

pub returns-clause-unchosen : goal.returns-clause-unchosen
returns-clause-unchosen c = unchosen_not

pub returns-clause-unsent : goal.returns-clause-unsent
returns-clause-unsent c = unsent_not

pub returns-clause-invented : goal.returns-clause-invented
returns-clause-invented c = invented_not

pub returns-clause-wrong : goal.returns-clause-wrong
returns-clause-wrong c = wrong_not

pub returns-clause-walked : goal.returns-clause-walked
returns-clause-walked c = walk_not

pub returns-clause-fault : goal.returns-clause-fault
returns-clause-fault c = fault_not

pub returns-clause-valued : goal.returns-clause-valued
returns-clause-valued c = valued_not

pub returns-clause-unpoked : goal.returns-clause-unpoked
returns-clause-unpoked c = unpoked_not

pub returns-clause-loose : goal.returns-clause-loose
returns-clause-loose c = loose_over

use Rattle.std.proofs.Common.{refl}
use Rattle.text.specs.Replies.{replied}
use Rattle.text.proofs.carry_out.Goals as goal

pub returns-in-Make : goal.returns-in-Make
unfolding replied
returns-in-Make c = rw c.in-Make.is c.make.ensures

pub returns-in-Register : goal.returns-in-Register
unfolding replied
returns-in-Register c = rw c.in-Register.is c.register.ensures

pub returns-in-VRead : goal.returns-in-VRead
unfolding replied
returns-in-VRead c = rw c.in-VRead.is c.start_vread.ensures

pub returns-in-VCas : goal.returns-in-VCas
unfolding replied
returns-in-VCas c = rw c.in-VCas.is c.start_vcas.ensures

pub returns-in-TakeSnapshot : goal.returns-in-TakeSnapshot
unfolding replied
returns-in-TakeSnapshot c = rw c.in-TakeSnapshot.is c.start_take_snapshot.ensures

pub returns-in-ReadSnapshot : goal.returns-in-ReadSnapshot
unfolding replied
returns-in-ReadSnapshot c = rw c.in-ReadSnapshot.is c.start_read_snapshot.ensures

pub returns-in-Total : goal.returns-in-Total
unfolding replied
returns-in-Total c = rw c.in-Total.is c.start_total.ensures

pub returns-in-Step : goal.returns-in-Step
unfolding replied
returns-in-Step c = rw c.in-Step.is c.step.ensures

pub returns-in-Bad : goal.returns-in-Bad
unfolding replied
returns-in-Bad c = rw c.in-Bad.is (record { answers = c.refuse.ensures; leaves = refl })

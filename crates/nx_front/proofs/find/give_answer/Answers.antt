use Rattle.nx_front.proofs.find.give_answer.Goals as goal

pub returns-in-NoQuestion-clause-given : goal.returns-in-NoQuestion-clause-given
returns-in-NoQuestion-clause-given g c = rw c.in-NoQuestion.is c.give_line.ensures.given

pub returns-in-NoQuestion-clause-alone : goal.returns-in-NoQuestion-clause-alone
returns-in-NoQuestion-clause-alone g c = rw c.in-NoQuestion.is c.give_line.ensures.alone

use Rattle.std.proofs.Common.{rules}
use Rattle.first_come.specs.Contents.{contents}
use Rattle.first_come.proofs.MarkLaws.{agree_after}
use Rattle.first_come.proofs.marked.MarkedList.list.Goals as goal

pub invariant_of-self : goal.invariant_of-self
invariant_of-self g c = record {
  agree = agree_after g.T.PartialEq.eq g.T.Mark.mark g.met.T.Mark.own (contents c.args.self.now.list) _ c.args.self.now.marks _ c.args.item _ c.args.self.now.agree (search rules) c.put.ensures.kept c.mark-mark.ensures c.set_mark.ensures;
}

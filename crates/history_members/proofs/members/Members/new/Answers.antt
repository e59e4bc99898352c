use Rattle.std.proofs.Common.{refl, ap, ◌∙◌}
use Rattle.std.specs.FinSet as set
use Rattle.history_members.proofs.FirstMembers.{first_in}
use Rattle.history_members.proofs.members.Members.new.Goals as goal

pub returns-clause-told : goal.returns-clause-told
returns-clause-told c = record {
  ever = λ q. ap (λ nodes. set.contains nodes q) c.first_nodes-first.ensures.nodes ∙ first_in c.args.config.now.nodes q;
  live = λ q. ap (λ nodes. set.contains nodes q) c.first_nodes-first.ensures.nodes ∙ first_in c.args.config.now.nodes q;
  installed = c.new-2.ensures;
  newest = c.in_ok-newest.ensures;
  departed = c.new-3.ensures;
  segments = c.in_ok-unread.ensures.segments;
  unread = λ node segment within. c.in_ok-unread.ensures.none node segment;
  clock = refl;
  moves = refl;
}

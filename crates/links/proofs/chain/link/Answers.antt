use Rattle.links.proofs.Chains.{link_starts, link_back, link_steps}
use Rattle.links.proofs.chain.link.Goals as goal

pub loop-t-init : goal.loop-t-init
loop-t-init c = link_starts c.requires

pub loop-t-preserved : goal.loop-t-preserved
loop-t-preserved c =
    let w = link_back c.loop-t.invariant c.loop-t-test.true in
    rw c.bucket-b.ensures.0 (link_steps c.requires w c.walk-m.result c.walk-m.ensures)

use Rattle.opening.proofs.Begun.{begun_sound}
use Rattle.opening.proofs.begin.Goals as goal

pub returns : goal.returns
returns c = begun_sound c.in_ok-header.header (rw (c.in_ok-header.was, c.new-links.ensures.0, c.new-links.ensures.1) at c.fill.ensures) c.sources.ensures c.charges.ensures c.start.ensures

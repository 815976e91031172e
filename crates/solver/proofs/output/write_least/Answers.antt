use mathlib.Core.Path.{◌≡◌, ap}
use native.Mathlib.Omega.{arith}
use Rattle.trace.specs.TraceFile.{requests_at, slots_at, fill_at}
use Rattle.trace.specs.declared.Header.{Header}
use Rattle.steps.proofs.Laying.{ready_slots, ready_laid}
use Rattle.solver.proofs.output.write_least.Goals as goal
use Rattle.solver.proofs.output.write_least.Goals.{Start}

-- what the header says
requests : (c : Start) → c.args.lists.now.header.requests ≡ requests_at c.args.lists.now.trace.now
requests c = ap (λ (h : Header). h.requests) c.requires.1

slots : (c : Start) → c.args.lists.now.header.slots ≡ slots_at c.args.lists.now.trace.now
slots c = ap (λ (h : Header). h.slots) c.requires.1

price : (c : Start) → c.args.lists.now.header.fill ≡ fill_at c.args.lists.now.trace.now
price c = ap (λ (h : Header). h.fill) c.requires.1

pub overflow_cast-lists : goal.overflow_cast-lists
overflow_cast-lists c = omega (arith, slots (goal.at.overflow_cast-lists c).Start, ready_slots c.requires.0)

pub lay-requires : goal.lay-requires
lay-requires c =
    let start = (goal.at.lay-requires c).Start in
    let l = ready_laid c.requires.0 _ _ (requests start) (price start) in
    (rw c.requires.2 l.0, l.1, omega (arith, slots start, ready_slots c.requires.0))

pub write_laid-requires : goal.write_laid-requires
write_laid-requires c = record { ready = (_, c.requires.0); header = c.requires.1; laid = c.lay.ensures }

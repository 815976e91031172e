use mathlib.Core.Path.{◌≡◌, ◌∙◌, sym, subst}
use Prim.Native.Nat.{ℕ}
use native.Mathlib.Omega.{arith}
use lib.ListN.{length, replicate, length-replicate}
use lib.Seq.{length-take-le}
use Rattle.model.specs.Numbers.{max_requests}
use Rattle.links.specs.Chains.{Read}
use Rattle.links.proofs.Answered.{few_requests, filled-sound}
use Rattle.links.proofs.Links.fill.Goals as goal
use Rattle.links.proofs.Links.fill.Goals.{After-read}

-- the part that is lent has as many places as the trace has requests
lent : (c : After-read) → length c.read.new.items ≡ c.in_ok-header.header.requests
lent c =
    let f = few_requests _ _ c.in_ok-header.ensures in
    c.read.ensures.same_length ∙ length-take-le c.in_ok-header.header.requests (replicate max_requests 0) (omega (arith, length-replicate {A = ℕ} max_requests 0))

pub slice_bounds-items-end : goal.slice_bounds-items-end
slice_bounds-items-end c =
    let f = few_requests _ _ c.in_ok-header.ensures in
    sym (length-take-le c.in_ok-header.header.requests (replicate max_requests 0) (omega (arith, length-replicate {A = ℕ} max_requests 0)))

pub slice_bounds-room-end : goal.slice_bounds-room-end
slice_bounds-room-end c = few_requests _ _ c.in_ok-header.ensures

pub lay-requires : goal.lay-requires
lay-requires c =
    let f = few_requests _ _ c.in_ok-header.ensures in
    omega (arith, lent (goal.at.lay-requires c).After-read)

pub returns : goal.returns
returns c =
    let l = lent (goal.at.returns c).After-read in
    let same : length _ ≡ c.in_ok-header.header.requests = sym c.read.ensures.same_length ∙ l in
    filled-sound _ _ c.in_ok-header.ensures (subst (λ (k : ℕ). Read c.args.trace.now c.read.new.items k) same c.read.ensures.items_read) l c.lay.ensures

-- What the methods of `Network` promise one another while lengths are laid. The promises of the public calls cite none of it.
-- Assumes nothing.
use Rattle.std.specs.Prelude.{ℕ, suc, List}
use Rattle.ways.specs.Ways.{point_length, request_length}
use Rattle.ways.specs.Parts.{put_both, Turned}
use Rattle.ways.specs.declared.turns.Network.{Network}
use Rattle.ways.specs.declared.turns.Brought.{Brought}

-- what request t brings, if c items are held before it
abbrev pub Brings : (net : Network) → (t c : ℕ) → Brought → Type 0
Brings net t c b = Turned net.n net.fill net.from.now net.charges.now net.flags.now net.worth.now t c b.crowd b.down b.ahead b.behind b.middle

-- the lengths of the ways into all nodes, with k slots laid, stored in a list
abbrev pub laid_in : (net : Network) → (k : ℕ) → List ℕ → List ℕ
laid_in net k len =
    put_both (point_length net.n k net.from.now net.flags.now net.worth.now)
    (request_length net.n net.fill net.from.now net.charges.now net.flags.now net.worth.now) net.n (suc net.n) net.n len

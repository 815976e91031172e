use mathlib.Core.Path.{refl}
use Rattle.sentences.proofs.Signs.{led_page}
use Rattle.sentences.proofs.Pen.led.Goals as goal

pub returns-clause-signed : goal.returns-clause-signed
returns-clause-signed c =
    let a = c.args in
    record { state = refl; page = led_page _ _ _ a.n a.lead a.count c.repeat.ensures.page c.lay.ensures.page }

-- A lent page as the definitions see it. Assumes nothing.
use Rattle.pages.specs.declared.Page.{Page as Lent}
use Rattle.pages.specs.Pages.{Page, filled}

-- its bytes, and how far it is filled
abbrev pub laid : Lent → Page
laid p = filled p.filled p.bytes.now

-- The digits of some quotients, by computing.
use mathlib.Core.Path.{◌≡◌, refl}
use lib.Ieee.{div, of_int, le, lt}
use Rattle.floats.specs.Cut.{cut_of}
use Rattle.floats.proofs.Ratio.{ratio}

-- 17 / 10 is a little less than 1.7, and is not rounded up
seventeen_tenths : cut_of (ratio 10 17) ≡ record { whole = 1; parts = 6999999999999999 }
unfolding div of_int le lt
seventeen_tenths = refl

-- 10 / 3 is a little more than 3.33.., from the sixteenth decimal on
ten_thirds : cut_of (ratio 3 10) ≡ record { whole = 3; parts = 3333333333333334 }
unfolding div of_int le lt
ten_thirds = refl

four : cut_of (ratio 1 4) ≡ record { whole = 4; parts = 0 }
unfolding div of_int le lt
four = refl

-- the least and the largest quotient
same : cut_of (ratio 2048000000 2048000000) ≡ record { whole = 1; parts = 0 }
unfolding div of_int le lt
same = refl

largest : cut_of (ratio 1 2048000000) ≡ record { whole = 2048000000; parts = 0 }
unfolding div of_int le lt
largest = refl

-- below 1 there is no answer
half : cut_of (ratio 2 1) ≡ record { whole = 0; parts = 0 }
unfolding div of_int le lt
half = refl

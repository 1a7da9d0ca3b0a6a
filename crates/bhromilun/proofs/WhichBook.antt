-- For C the corrections are 0 and the main book is 1, as the header says: the promise alone would hold with the two changed over in the
-- definition and the code together. Assumes nothing.
use mathlib.Core.Path.{◌≡◌, refl}
use Rattle.corrections.specs.Corrections.{the_corrections, the_main}
use Rattle.bhromilun.specs.Books.{which_number}

pub corrections_are_0 : which_number the_corrections ≡ 0
corrections_are_0 = refl

pub main_is_1 : which_number the_main ≡ 1
main_is_1 = refl

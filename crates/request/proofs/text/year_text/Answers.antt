-- The parts one after the other. Assumes nothing.
use mathlib.Core.List.{append_assoc}
use mir.Facts.{to_z-of_z}
use Rattle.law.specs.Request.{year_text}
use Rattle.request.proofs.text.year_text.Goals as goal

pub returns : goal.returns
unfolding year_text
returns c =
    rw (c.byte-5.ensures, c.number-2.ensures.text, c.byte-4.ensures, c.two_digits-2.ensures, c.byte-3.ensures)
    (rw (c.two_digits.ensures, c.byte-2.ensures, c.number.ensures.text, c.byte.ensures, c.signed_text.ensures.text, to_z-of_z c.ranges.n)
    (simp append_assoc))

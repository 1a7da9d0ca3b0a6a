-- A refusal's line is written as document 01 says. Assumes nothing.
use Rattle.std.proofs.Common.{◌≡◌, refl, ◌++◌, codes, decimal}
use Rattle.law.specs.Request.{digits_of, refused_text}
use Rattle.units.specs.declared.refusal.Refusal.{Refusal}
use Rattle.units.specs.declared.refusal.Refusal.TheVariants as refusal
use Rattle.units.specs.Said.{number_of}
use Rattle.std.specs.Fmt.{digits}

pub written : (r : Refusal) → codes "refused " ++ (decimal (number_of r) ++ codes "\n") ≡ refused_text (number_of r)
unfolding digits digits_of refused_text
written refusal.YearOutside = refl
written refusal.DayOrMinuteOutside = refl
written refusal.TermAbove = refl
written refusal.LongitudeBeyond = refl
written refusal.TangentAbove = refl
written refusal.TooShort = refl
written refusal.RecordCutOff = refl
written refusal.KindUnknown = refl
written refusal.FieldOutside = refl
written refusal.OutOfTurn = refl
written refusal.NotAYear = refl
written refusal.YearAbsent = refl

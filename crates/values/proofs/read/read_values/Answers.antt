-- A sound year has all its bytes, and the values read are those at its places. Assumes nothing.
use Rattle.std.proofs.Common.{◌≡◌, sym, subst, arith, w64, Ok}
use Rattle.std.proofs.lemmas.Result.{err_from_is_err_and}
use Rattle.law.specs.Book.{next_at}
use Rattle.units.proofs.Machine.{lowered}
use Rattle.book.specs.Said.{said_next}
use Rattle.book.proofs.YearSteps.{year_sound, year_room}
use Rattle.values.proofs.read.YearValues.{first_year_lem, year_read_lem}
use Rattle.values.proofs.read.read_values.Goals as goal

pub returns-in_err-year : goal.returns-in_err-year
returns-in_err-year c =
    let p = err_from_is_err_and c.from_residual.result c.from_residual.ensures.1 in
    rw (p.1, p.2) (record { says = first_year_lem _ _ c.in_err-year.ensures; year = tt })

pub returns-in_default : goal.returns-in_default
returns-in_default c =
    let b = c.args.bytes.now in
    let none = subst (λ o. said_next (Ok o) ≡ next_at b 0 0) c.in_default.is c.in_ok-year.ensures in
    record { says = first_year_lem b _ none; year = tt }

pub terms_at-requires : goal.terms_at-requires
terms_at-requires c =
    let b = c.args.bytes.now in
    let found = subst (λ o. said_next (Ok o) ≡ next_at b 0 0) c.in-Some.is c.in_ok-year.ensures in
    let year = year_sound 0 0 b _ (sym (first_year_lem b _ found)) in
    omega (arith, year_room _ _ year, year.head)

pub returns : goal.returns
returns c =
    let b = c.args.bytes.now in
    let found = subst (λ o. said_next (Ok o) ≡ next_at b 0 0) c.in-Some.is c.in_ok-year.ensures in
    let says = first_year_lem b _ found in
    let year = year_sound 0 0 b _ (sym says) in
    let down = lowered w64 2_000 c.two_at.result (omega arith) (omega arith) in
    record {
      says = says;
      year = year_read_lem b year.head.size down.is c.two_at.ensures.0 c.byte_at.ensures.0 c.byte_at-2.ensures.0 c.terms_at.ensures;
    }

-- The working forms of document 01's rules, on numbers from 0 up: a year is counted as y = N + 2,000, a day as j = d + 4, and a
-- run-on place is lifted. proofs/Bridge.antt proves each equal to the document's own. Assumes nothing.
use Rattle.std.specs.Prelude.{cond, ℕ, zero, suc, ◌+◌, ◌*◌, ◌-◌, ◌/◌, ◌%◌, leb, ltb, ℤ, pos, ◌-ℤ◌}
use Rattle.law.specs.Entry.{last_tangent, tangent_entry}
use Rattle.law.specs.Index.{year_index}
use Rattle.law.specs.Round.{half_up}
use Rattle.reasoning.specs.Answer.{Answer, value, refusing}
use Rattle.law.specs.Document.{degree, circle, half, quarter, day, year_length, daily_motion, perigee_yearly, perigee_daily, perigee_epoch, day_epoch, radius, sine, cosine, tangent, angle, cut_off, rounded, carried_minute, carried_day, bad_year, bad_term, off_table, YearValues, TermValues, CrossingValues}

-- ---- the year

-- whole sixties and whole twenty-eights, and more days than 2,000 years have
abbrev pub lift_days : ℕ
lift_days = 730_800

-- the mean solstice, that many days more than the document counts
unfoldable pub solstice_of : ℕ → ℕ
solstice_of y = day_epoch + (lift_days * day - 2_000 * year_length) + y * year_length

unfoldable pub root_from : ℕ → ℕ
root_from solstice = half_up ((day - solstice % day) * daily_motion) day

unfoldable pub root_of : ℕ → ℕ
root_of y = root_from (solstice_of y)

-- the year's four values; the mansion's epoch is two days before the day name's, and one is added: 27, taken by 28
unfoldable pub year_of : ℕ → YearValues
year_of y =
    record {
      solstice_day = solstice_of y / day % 60;
      solstice_fraction = solstice_of y % day;
      duty_mansion = (solstice_of y / day + 27) % 28;
      year_root = root_of y;
    }

-- ---- the equation: x is an arc from the perigee or the apogee up to a quarter circle, u one from the perigee up to a half

unfoldable pub height_of : ℕ → ℕ → ℕ
height_of e x = half_up (e * sine x) radius

unfoldable pub base_of : ℕ → ℕ → ℕ
base_of e x = half_up (e * cosine x) radius

unfoldable pub near_of : ℕ → ℕ → ℕ
near_of e x = half_up (2 * height_of e x * radius) (radius - base_of e x)

unfoldable pub far_of : ℕ → ℕ → ℕ
far_of e x = half_up (2 * height_of e x * radius) (radius + base_of e x)

unfoldable pub tangent_of : ℕ → ℕ → ℕ
tangent_of e u = cond (leb u quarter) (near_of e u) (far_of e (half - u))

-- what an angle or the size of an equation is, or refusal 5
unfoldable pub angle_answer : ℕ → Answer ℕ
angle_answer t = refusing (ltb (tangent_entry last_tangent) t) 5 (value (angle t))

unfoldable pub size_answer : ℕ → ℕ → Answer ℕ
size_answer e a = refusing (off_table e a) 5 (value (angle (tangent e a)))

-- what the equation adds, and what it takes away
unfoldable pub added : ℕ → ℕ → ℕ
added e a = cond (ltb a half) (angle (tangent e a)) 0

unfoldable pub taken : ℕ → ℕ → ℕ
taken e a = cond (ltb a half) 0 (angle (tangent e a))

-- ---- places

-- what the anomaly gains in a day
abbrev pub gain : ℕ
gain = daily_motion - perigee_daily

-- a circle more than the document's, so that nothing is below 0
unfoldable pub anomaly_of : ℕ → ℕ → ℕ
anomaly_of y j = (root_of y + (circle + 2_000 * perigee_yearly - perigee_epoch - 4 * gain - y * perigee_yearly) + j * gain) % circle

-- more than any equation takes away, so that no place is below 0
abbrev pub headroom : ℕ
headroom = 1_000_000_000_000

abbrev pub lift : ℕ
lift = headroom + 4 * daily_motion

-- the run-on place, lifted by that much
unfoldable pub place_of : ℕ → ℕ → ℕ → ℕ
place_of e y j = root_of y + headroom + j * daily_motion + added e (anomaly_of y j) - taken e (anomaly_of y j)

unfoldable pub place_answer : ℕ → ℕ → ℕ → Answer ℕ
place_answer e y j = refusing (off_table e (anomaly_of y j)) 5 (value (place_of e y j))

-- ---- terms: a mark is counted as it is, and lifted where it is held against a place

abbrev pub mark_of : ℕ → ℕ
mark_of k = 15 * k * degree

unfoldable pub start_of : ℕ → ℕ → ℕ
start_of y mark = (mark + 4 * daily_motion - root_of y) / daily_motion - 3

-- the midnights visited from j on until the first place past the mark, with so many left
unfoldable pub count_from_of : (ℕ → ℕ) → ℕ → ℕ → ℕ → ℕ
count_from_of place mark zero j = zero
count_from_of place mark (suc left) j = cond (ltb mark (place j)) 1 (suc (count_from_of place mark left (suc j)))

-- what a walk finds: the night before the first one past the mark, what is gone from its place to the mark, the step to the next
-- night's place, and the midnights visited
pub record Find : Type 0 where
  pub day_found : ℕ
  pub gone_found : ℕ
  pub step_found : ℕ
  pub count_found : ℕ

-- from j on with so many left, and so many counted before
unfoldable pub find_from : (ℕ → ℕ) → ℕ → ℕ → ℕ → ℕ → Find
find_from place mark left j count =
    record {
      day_found = j + count_from_of place mark left j - 2;
      gone_found = mark - place (j + count_from_of place mark left j - 2);
      step_found = place (suc (j + count_from_of place mark left j - 2)) - place (j + count_from_of place mark left j - 2);
      count_found = count + count_from_of place mark left j;
    }

-- a term's search begins at the start itself, with eight left
unfoldable pub find_of : ℕ → ℕ → ℕ → Find
find_of e y k = find_from (place_of e y) (mark_of k + lift) 8 (start_of y (mark_of k)) 0

-- the same for any N and k, the refusals in their order; 5 never comes
unfoldable pub find_answer : ℕ → ℤ → ℕ → Answer Find
find_answer e N k = refusing (bad_year N) 1 (refusing (bad_term k) 3 (value (find_of e (year_index N) k)))

-- the night found as a day of the document's, with the minute cut off
unfoldable pub crossing_of : Find → CrossingValues
crossing_of f = record { day_of_crossing = pos f.day_found -ℤ pos 4; minute_of_crossing = cut_off f.gone_found f.step_found }

-- and as it is printed
unfoldable pub print_of : Find → TermValues
print_of f =
    record {
      day_of_term = carried_day (pos f.day_found -ℤ pos 4) (rounded f.gone_found f.step_found);
      minute_of_term = carried_minute (rounded f.gone_found f.step_found);
      count_of_term = f.count_found;
    }

unfoldable pub term_of : ℕ → ℕ → ℕ → TermValues
term_of e y k = print_of (find_of e y k)

-- Document 01 as definitions, its sections in its order and words, with what document 02's requests changed in it: hold the three
-- side by side.
-- N is the years elapsed from 1684 and d a day, signed. An angle is in whole units, and a place may be below 0 or past the circle.
-- Assumes nothing.
use Rattle.std.specs.Prelude.{Bool, false, cond, ◌||◌, List, ◌++◌, ℕ, zero, suc, ◌+◌, ◌*◌, ◌-◌, ◌/◌, ◌%◌, leb, ltb, eqb, ℤ, pos, neg_ℤ, nat_abs, ◌+ℤ◌, ◌-ℤ◌, ◌*ℤ◌, drop}
use Rattle.std.specs.Int.Signed.{lt_z}
use Rattle.law.specs.Entry.{last_tangent, sine_entry, tangent_entry}
use Rattle.law.specs.Round.{half_up, half_up_on_size, floor_div, floor_mod}
use Rattle.reasoning.specs.InOrder.{in_order}
use Rattle.reasoning.specs.Answer.{Answer, value, refused, refusing}

-- ======== Units and constants

-- 60,000,000 units to one second of arc
abbrev pub second : ℕ
second = 60_000_000

-- sixty seconds, and sixty minutes, as the document writes ′ and °
abbrev pub minute : ℕ
minute = 60 * second

abbrev pub degree : ℕ
degree = 60 * minute

-- a circle is 1,296,000 seconds
abbrev pub circle : ℕ
circle = 1_296_000 * second

-- the half circle and the quarter
abbrev pub half : ℕ
half = circle / 2

abbrev pub quarter : ℕ
quarter = circle / 4

-- days are counted in thousand-millionths
abbrev pub day : ℕ
day = 1_000_000_000

-- 365.2421875 days
abbrev pub year_length : ℕ
year_length = 365 * day + 242_187_500

-- mean daily motion, 3548.3305169″
abbrev pub daily_motion : ℕ
daily_motion = 212_899_831_014

-- perigee, yearly, 61.16666″
abbrev pub perigee_yearly : ℕ
perigee_yearly = 3_669_999_600

-- perigee, daily, 0.167469″
abbrev pub perigee_daily : ℕ
perigee_daily = 10_048_140

-- perigee at epoch, 7°10′11″10‴
abbrev pub perigee_epoch : ℕ
perigee_epoch = 1_548_670_000_000

-- day epoch, 7.656374926 days
abbrev pub day_epoch : ℕ
day_epoch = 7 * day + 656_374_926

-- mansion epoch, 5.656374926 days
abbrev pub mansion_epoch : ℕ
mansion_epoch = 5 * day + 656_374_926

-- radius, 10,000,000
abbrev pub radius : ℕ
radius = 10_000_000

-- the difference of the epicycles, 268,812 and 89,604
abbrev pub epicycles : ℕ
epicycles = 268_812 - 89_604

-- ======== Year, day, anomaly

-- the mean solstice stands at day epoch plus N years, counted from a jiazi day 0
unfoldable pub solstice : ℤ → ℤ
solstice N = pos day_epoch +ℤ N *ℤ pos year_length

-- its whole part, rounded down, taken by 60, is the day name
unfoldable pub day_name : ℤ → ℕ
day_name N = floor_mod (floor_div (solstice N) day) 60

-- the solstice's fraction of a day
unfoldable pub fraction : ℤ → ℕ
fraction N = floor_mod (solstice N) day

-- the duty mansion is mansion epoch plus N years, rounded down, plus one, taken by 28
unfoldable pub mansion : ℤ → ℕ
mansion N = floor_mod (floor_div (pos mansion_epoch +ℤ N *ℤ pos year_length) day +ℤ pos 1) 28

-- the root is (1 − the solstice's fraction) times the daily motion, a half or more rounded up to a unit
unfoldable pub root : ℤ → ℕ
root N = half_up ((day - fraction N) * daily_motion) day

-- mean place = root + d daily motions
unfoldable pub mean_place : ℤ → ℤ → ℤ
mean_place N d = pos (root N) +ℤ d *ℤ pos daily_motion

-- perigee = epoch value + N yearly + d daily motions of the perigee
unfoldable pub perigee : ℤ → ℤ → ℤ
perigee N d = pos perigee_epoch +ℤ N *ℤ pos perigee_yearly +ℤ d *ℤ pos perigee_daily

-- brought into the circle
unfoldable pub in_circle : ℤ → ℕ
in_circle z = floor_mod z circle

-- anomaly = mean place − perigee, brought into the circle
unfoldable pub anomaly : ℤ → ℤ → ℕ
anomaly N d = in_circle (mean_place N d -ℤ perigee N d)

-- ======== Sines, tangents, equation of centre: a is an anomaly in the circle, e the difference of the epicycles

-- the anomaly is mirrored past the half circle (circle − anomaly)
unfoldable pub mirrored : ℕ → ℕ
mirrored a = cond (leb a half) a (circle - a)

-- then past the quarter (half circle − it)
unfoldable pub folded : ℕ → ℕ
folded a = cond (leb (mirrored a) quarter) (mirrored a) (half - mirrored a)

-- one entry for each 10′
abbrev pub ten_minutes : ℕ
ten_minutes = 10 * minute

-- of a table with an entry for each 10′: the entry below plus the proportional part of the step, rounded down
unfoldable pub between : (ℕ → ℕ) → ℕ → ℕ
between entry x =
    entry (x / ten_minutes) + (entry (x / ten_minutes + 1) - entry (x / ten_minutes)) * (x % ten_minutes) / ten_minutes

-- the sine of an arc up to a quarter circle
unfoldable pub sine : ℕ → ℕ
sine x = between sine_entry x

-- the cosine is the sine of the complement
unfoldable pub cosine : ℕ → ℕ
cosine x = sine (quarter - x)

-- 1. height = 179,208 × sine / radius, half or more rounds up
unfoldable pub height : ℕ → ℕ → ℕ
height e a = half_up (e * sine (folded a)) radius

-- base = 179,208 × cosine / radius, half or more rounds up
unfoldable pub base : ℕ → ℕ → ℕ
base e a = half_up (e * cosine (folded a)) radius

-- 2. the long side is radius − base up to a quarter circle from the perigee, else radius + base
unfoldable pub long_side : ℕ → ℕ → ℕ
long_side e a = cond (leb (mirrored a) quarter) (radius - base e a) (radius + base e a)

-- 3. tangent = doubled height × radius / long side, half or more up
unfoldable pub tangent : ℕ → ℕ → ℕ
tangent e a = half_up (2 * height e a * radius) (long_side e a)

-- 4. the last minute, up to n, whose entry is not above the tangent t
unfoldable pub last_minute : ℕ → ℕ → ℕ
last_minute t zero = zero
last_minute t (suc n) = cond (leb (tangent_entry (suc n)) t) (suc n) (last_minute t n)

-- minute m, plus the proportional part of that minute, rounded down to a unit (at the last entry nothing is over)
unfoldable pub angle_past : ℕ → ℕ → ℕ
angle_past m t = m * minute + (t - tangent_entry m) * minute / (tangent_entry (m + 1) - tangent_entry m)

-- the minute whose entry is the last not above the tangent, with that part
unfoldable pub angle : ℕ → ℕ
angle t = angle_past (last_minute t last_tangent) t

-- 5. add for anomalies from 0 to below the half circle, subtract from there on
unfoldable pub equation : ℕ → ℕ → ℤ
equation e a = cond (ltb a half) (pos (angle (tangent e a))) (neg_ℤ (pos (angle (tangent e a))))

-- the true place is mean place plus equation; run-on, it is not brought into the circle
unfoldable pub run_on_place : ℕ → ℤ → ℤ → ℤ
run_on_place e N d = mean_place N d +ℤ equation e (anomaly N d)

-- ======== Term days and minutes

-- term k has its mark at 15k°
unfoldable pub mark : ℕ → ℤ
mark k = pos (15 * k * degree)

-- the start is three days before the whole part, rounded down, of (mark − root) / daily motion
unfoldable pub start : ℤ → ℕ → ℤ
start N k = floor_div (mark k -ℤ pos (root N)) daily_motion -ℤ pos 3

-- the midnights visited from day d on, one further each time with so many left, until the first place past the mark
unfoldable pub count_from : (ℤ → ℤ) → ℤ → ℕ → ℤ → ℕ
count_from place mark zero d = zero
count_from place mark (suc left) d = cond (lt_z mark (place d)) 1 (suc (count_from place mark left (d +ℤ pos 1)))

-- at most eight are left at the start
unfoldable pub count : ℕ → ℤ → ℕ → ℕ
count e N k = count_from (run_on_place e N) (mark k) 8 (start N k)

-- its day is the one before the first midnight past the mark: demand 3's day
unfoldable pub term_day : ℕ → ℤ → ℕ → ℤ
term_day e N k = start N k +ℤ pos (count e N k) -ℤ pos 2

-- mark − place, what is gone from the midnight of day d to the mark; next place − place, the step from that midnight to the next
unfoldable pub gone_on : ℕ → ℤ → ℤ → ℤ → ℕ
gone_on e N mark d = nat_abs (mark -ℤ run_on_place e N d)

unfoldable pub step_on : ℕ → ℤ → ℤ → ℕ
step_on e N d = nat_abs (run_on_place e N (d +ℤ pos 1) -ℤ run_on_place e N d)

-- the minute is 1,440 × (mark − place) / (next place − place), cut off and not rounded
abbrev pub cut_off : ℕ → ℕ → ℕ
cut_off gone step = 1_440 * gone / step

-- on the term's own day
unfoldable pub cut_minute : ℕ → ℤ → ℕ → ℕ
cut_minute e N k = cut_off (gone_on e N (mark k) (term_day e N k)) (step_on e N (term_day e N k))

-- minutes are rounded in the almanac (document 02, K2): half or more now rounds up
abbrev pub rounded : ℕ → ℕ → ℕ
rounded gone step = half_up (1_440 * gone) step

unfoldable pub rounded_minute : ℕ → ℤ → ℕ → ℕ
rounded_minute e N k = rounded (gone_on e N (mark k) (term_day e N k)) (step_on e N (term_day e N k))

-- where that gives 1,440, the answer is minute 0
unfoldable pub carried_minute : ℕ → ℕ
carried_minute m = cond (eqb m 1_440) 0 m

-- of the next day
unfoldable pub carried_day : ℤ → ℕ → ℤ
carried_day d m = cond (eqb m 1_440) (d +ℤ pos 1) d

-- so the printed day may be one later than demand 3's
unfoldable pub printed_day : ℕ → ℤ → ℕ → ℤ
printed_day e N k = carried_day (term_day e N k) (rounded_minute e N k)

unfoldable pub printed_minute : ℕ → ℤ → ℕ → ℕ
printed_minute e N k = carried_minute (rounded_minute e N k)

-- a place lies at a signed longitude in seconds of arc, east positive; fifteen make one clock second, half or more up on the size
unfoldable pub clock_of_arc : ℤ → ℤ
clock_of_arc arc = half_up_on_size arc 15

-- these are added to day and minute; the seconds left over are cut off downward: in minutes from day 0 on
unfoldable pub local_minutes : ℤ → ℕ → ℤ → ℤ
local_minutes d m arc = floor_div ((d *ℤ pos 1_440 +ℤ pos m) *ℤ pos 60 +ℤ clock_of_arc arc) 60

-- and the day carries
unfoldable pub local_day : ℤ → ℕ → ℤ → ℤ
local_day d m arc = floor_div (local_minutes d m arc) 1_440

-- the minute of that day
unfoldable pub local_minute : ℤ → ℕ → ℤ → ℕ
local_minute d m arc = floor_mod (local_minutes d m arc) 1_440

-- ======== Refusal numbers

-- a number below the least or above the most
abbrev outside : ℤ → ℤ → ℤ → Bool
outside least most z = lt_z z least || lt_z most z

-- 1: an N outside -2,000 to 2,000
abbrev pub bad_year : ℤ → Bool
bad_year N = outside (neg_ℤ (pos 2_000)) (pos 2_000) N

-- 2: a day outside -4 to 370
abbrev pub bad_day : ℤ → Bool
bad_day d = outside (neg_ℤ (pos 4)) (pos 370) d

-- 2: a minute above 1,439
abbrev pub bad_minute : ℕ → Bool
bad_minute m = ltb 1_439 m

-- 3: a term above 23
abbrev pub bad_term : ℕ → Bool
bad_term k = ltb 23 k

-- 4: longitude beyond 648,000″ either way
abbrev pub bad_longitude : ℤ → Bool
bad_longitude arc = outside (neg_ℤ (pos 648_000)) (pos 648_000) arc

-- 5: tangent above the table's end
abbrev pub off_table : ℕ → ℕ → Bool
off_table e a = ltb (tangent_entry last_tangent) (tangent e a)

-- for a term: such a tangent at any midnight visited from day d on
unfoldable pub off_from : (ℤ → Bool) → (ℤ → ℤ) → ℤ → ℕ → ℤ → Bool
off_from off place mark zero d = false
off_from off place mark (suc left) d = off d || cond (lt_z mark (place d)) false (off_from off place mark left (d +ℤ pos 1))

-- the midnights that the walk to term k visits
abbrev pub off_term : ℕ → ℤ → ℕ → Bool
off_term e N k = off_from (λ (d : ℤ). off_table e (anomaly N d)) (run_on_place e N) (mark k) 8 (start N k)

-- ======== What the calls answer, the refusals in their order

-- day name and fraction of the mean solstice, duty mansion, root
pub record YearValues : Type 0 where
  pub solstice_day : ℕ
  pub solstice_fraction : ℕ
  pub duty_mansion : ℕ
  pub year_root : ℕ

-- of the year N
abbrev pub year_values : ℤ → YearValues
year_values N = record { solstice_day = day_name N; solstice_fraction = fraction N; duty_mansion = mansion N; year_root = root N }

-- the year: 1
unfoldable pub year_answer : ℤ → Answer YearValues
year_answer N = refusing (bad_year N) 1 (value (year_values N))

-- the equation: 5; an anomaly given directly is brought into the circle
unfoldable pub equation_answer : ℕ → ℤ → Answer ℤ
equation_answer e given = refusing (off_table e (in_circle given)) 5 (value (equation e (in_circle given)))

-- the mean place at a midnight, brought into the circle: 1, 2
unfoldable pub mean_answer : ℤ → ℤ → Answer ℕ
mean_answer N d = refusing (bad_year N) 1 (refusing (bad_day d) 2 (value (in_circle (mean_place N d))))

-- the true place, brought into the circle: 1, 2, 5
unfoldable pub true_answer : ℕ → ℤ → ℤ → Answer ℕ
true_answer e N d =
    refusing (bad_year N) 1 (refusing (bad_day d) 2 (refusing (off_table e (anomaly N d)) 5 (value (in_circle (run_on_place e N d)))))

-- the true place, run-on: 1, 2, 5
unfoldable pub run_on_answer : ℕ → ℤ → ℤ → Answer ℤ
run_on_answer e N d =
    refusing (bad_year N) 1 (refusing (bad_day d) 2 (refusing (off_table e (anomaly N d)) 5 (value (run_on_place e N d))))

-- a term: day, minute, count
pub record TermValues : Type 0 where
  pub day_of_term : ℤ
  pub minute_of_term : ℕ
  pub count_of_term : ℕ

-- of term k of the year N, as it is printed
unfoldable pub term_values : ℕ → ℤ → ℕ → TermValues
term_values e N k = record { day_of_term = printed_day e N k; minute_of_term = printed_minute e N k; count_of_term = count e N k }

-- one term: 1, 3, 5
unfoldable pub term_answer : ℕ → ℤ → ℕ → Answer TermValues
term_answer e N k = refusing (bad_year N) 1 (refusing (bad_term k) 3 (refusing (off_term e N k) 5 (value (term_values e N k))))

-- a term's crossing: demand 3's day, and the minute cut off
pub record CrossingValues : Type 0 where
  pub day_of_crossing : ℤ
  pub minute_of_crossing : ℕ

unfoldable pub crossing_values : ℕ → ℤ → ℕ → CrossingValues
crossing_values e N k = record { day_of_crossing = term_day e N k; minute_of_crossing = cut_minute e N k }

-- by itself: 1, 3, 5
unfoldable pub crossing_answer : ℕ → ℤ → ℕ → Answer CrossingValues
crossing_answer e N k = refusing (bad_year N) 1 (refusing (bad_term k) 3 (refusing (off_term e N k) 5 (value (crossing_values e N k))))

-- 5, at any term below k
unfoldable pub off_below : ℕ → ℤ → ℕ → Bool
off_below e N zero = false
off_below e N (suc k) = off_term e N k || off_below e N k

-- a year's terms 0 to 23: 1, 5
unfoldable pub terms_answer : ℕ → ℤ → Answer (List TermValues)
terms_answer e N = refusing (bad_year N) 1 (refusing (off_below e N 24) 5 (value (in_order (term_values e N) 24)))

-- the same for a lent list of so many records: 1, 6, 5
unfoldable pub fill_answer : ℕ → ℤ → ℕ → Answer (List TermValues)
fill_answer e N room = refusing (bad_year N) 1 (refusing (ltb room 24) 6 (terms_answer e N))

-- a year call fills a lent list of 24 records; a longer list keeps its later records, and a refusal alters none
abbrev pub filled : Answer (List TermValues) → List TermValues → List TermValues
filled (value terms) list = terms ++ drop 24 list
filled (refused number) list = list

-- day and minute at a place
pub record LocalValues : Type 0 where
  pub day_there : ℤ
  pub minute_there : ℕ

-- the local time: 2, 4
unfoldable pub local_answer : ℤ → ℕ → ℤ → Answer LocalValues
local_answer d m arc =
    refusing (bad_day d || bad_minute m) 2
    (refusing (bad_longitude arc) 4 (value (record { day_there = local_day d m arc; minute_there = local_minute d m arc })))

-- Room: the most bytes that each part of the text takes. A number is given room for 20 digits.
use Rattle.std.specs.Prelude.{ℕ, ◌+◌, ◌*◌}
use Rattle.listing.specs.Room.{number_room}
use Rattle.runs.specs.Run.{job_limit}
use Rattle.timeline.specs.Text.{shown_limit}

-- `1.2`: 41
abbrev pub name_room : ℕ
name_room = number_room + 1 + number_room

-- ` arrive 1.2 due 4`: 74
abbrev pub arrival_room : ℕ
arrival_room = 8 + name_room + 5 + number_room

-- all of them: 4,736
abbrev pub arrivals_room : ℕ
arrivals_room = job_limit * arrival_room

-- ` run 1.2`: 46
abbrev pub runner_room : ℕ
runner_room = 5 + name_room

-- a tick: 4,808
abbrev pub tick_room : ℕ
tick_room = 5 + number_room + arrivals_room + runner_room + 1

-- all that are shown: 153,856
abbrev pub ticks_room : ℕ
ticks_room = shown_limit * tick_room

-- `missed at 8`: 30
abbrev pub missed_room : ℕ
missed_room = 10 + number_room

-- `of 24 ticks 6 idle, missed at 8` and the line's end: 88
abbrev pub summary_room : ℕ
summary_room = 3 + number_room + 7 + number_room + 7 + missed_room + 1

-- what the text of a run takes: 153,944
abbrev pub text_room : ℕ
text_room = ticks_room + summary_room

-- and the buffer that it is written to
abbrev pub watch_bytes : ℕ
watch_bytes = 160000

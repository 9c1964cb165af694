-- The one place where a definition makes a `System` or a `TaskType`: a later field is added here.
use Rattle.std.specs.Prelude.{ℕ, suc, ◌-◌, List, ◌++◌, map, replicate, get_or, set, take, None, Some}
use Rattle.system.specs.declared.TaskType.{TaskType}
use Rattle.system.specs.declared.System.{System}
use Rattle.system.specs.Numbers.{type_limit}

-- a type of these u, s and n: "without it d is 0" (request 2026-03), "Without it there is no limit" (2026-04), no C and T (2026-14), and nothing of a second
-- kind (2026-13)
abbrev pub task_of : ℕ → ℕ → ℕ → TaskType
task_of u s n = record { time = u; memory = s; ceiling = n; «data» = 0; most = None; pace = None; there = None }

-- the type with its d, with its q, with its C and T, and with its u and s on the second kind
abbrev pub with_data : ℕ → TaskType → TaskType
with_data d t = record { time = t.time; memory = t.memory; ceiling = t.ceiling; «data» = d; most = t.most; pace = t.pace; there = t.there }

abbrev pub with_most : ℕ → TaskType → TaskType
with_most q t = record { time = t.time; memory = t.memory; ceiling = t.ceiling; «data» = t.data; most = Some q; pace = t.pace; there = t.there }

abbrev pub with_pace : ℕ → ℕ → TaskType → TaskType
with_pace c p t =
    record {
      time = t.time;
      memory = t.memory;
      ceiling = t.ceiling;
      «data» = t.data;
      most = t.most;
      pace = Some (record { run = c; period = p });
      there = t.there;
    }

abbrev pub with_costs : ℕ → ℕ → TaskType → TaskType
with_costs u s t =
    record {
      time = t.time;
      memory = t.memory;
      ceiling = t.ceiling;
      «data» = t.data;
      most = t.most;
      pace = t.pace;
      there = Some (record { time = u; memory = s });
    }

-- what stands for a type past k
abbrev pub no_task : TaskType
no_task = task_of 0 0 0

-- the system before any field was read, and the one that a refusal hands out
abbrev pub blank : System
blank = record { engines = 0; rule = 0; timecap = 0; memorycap = 0; typecount = 0; types = replicate type_limit no_task; second = None }

-- the system with a platform's m, rule, U and S
abbrev pub with_platform : ℕ → ℕ → ℕ → ℕ → System → System
with_platform m rule u s y = record { engines = m; rule = rule; timecap = u; memorycap = s; typecount = y.typecount; types = y.types; second = y.second }

-- the system with a second kind of engine: its number, U and S
abbrev pub with_second : ℕ → ℕ → ℕ → System → System
with_second n u s y =
    record {
      engines = y.engines;
      rule = y.rule;
      timecap = y.timecap;
      memorycap = y.memorycap;
      typecount = y.typecount;
      types = y.types;
      second = Some (record { number = n; timecap = u; memorycap = s });
    }

-- the system with one type more, at the next type number
abbrev pub with_type : TaskType → System → System
with_type t y =
    record { engines = y.engines; rule = y.rule; timecap = y.timecap; memorycap = y.memorycap; typecount = suc y.typecount; types = set y.types y.typecount t; second = y.second }

-- the type of the highest number
abbrev pub last_type : System → TaskType
last_type y = get_or y.types (y.typecount - 1) no_task

-- the system with another type in its place
abbrev pub with_last : TaskType → System → System
with_last t y =
    record { engines = y.engines; rule = y.rule; timecap = y.timecap; memorycap = y.memorycap; typecount = y.typecount; types = set y.types (y.typecount - 1) t; second = y.second }

-- the system with 0 and nothing given past k, whatever stood there: what its file reads as
abbrev pub cleared_types : ℕ → List TaskType → List TaskType
cleared_types k ts = take k ts ++ replicate (type_limit - k) no_task

abbrev pub cleared : System → System
cleared y =
    record {
      engines = y.engines;
      rule = y.rule;
      timecap = y.timecap;
      memorycap = y.memorycap;
      typecount = y.typecount;
      types = cleared_types y.typecount y.types;
      second = y.second;
    }

-- n(1), n(2), .., 0 past k
abbrev pub ceilings_of : System → List ℕ
ceilings_of y = map (λ (t : TaskType). t.ceiling) y.types

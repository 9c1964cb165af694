-- Room: the most bytes that each part of a listing takes. A whole listing takes at most 3,405, so a buffer of 4,096 holds every one.
use Rattle.std.specs.Prelude.{ℕ, ◌+◌, ◌*◌, List, length}
use Rattle.system.specs.Limits.{engine_limit, type_limit}
use Rattle.listing.specs.Listing.{engines_word, engine_word, util_word, mem_word, types_word}

-- the digits of a number of 64 bits
abbrev pub number_room : ℕ
number_room = 20

-- a number after a space; a word and its number; both after a space
abbrev pub spaced_room : ℕ
spaced_room = 1 + number_room

abbrev pub entry_room : List ℕ → ℕ
entry_room word = length word + spaced_room

abbrev pub share_room : List ℕ → ℕ
share_room word = 1 + entry_room word

-- a line of one word and one number
abbrev pub line_room : List ℕ → ℕ
line_room word = entry_room word + 1

-- the counts of a line: 126
abbrev pub counts_room : ℕ
counts_room = type_limit * spaced_room

-- the line of an engine: 211
abbrev pub engine_room : ℕ
engine_room = entry_room engine_word + share_room util_word + share_room mem_word + 1 + length types_word + counts_room + 1

-- the lines of all engines: 3,376
abbrev pub engines_room : ℕ
engines_room = engine_limit * engine_room

-- a whole listing: 3,405
abbrev pub listing_room : ℕ
listing_room = line_room engines_word + engines_room

-- What contracts see of a source and a sink in memory: which call fails, how much a call moves, and what is so after it.
use Rattle.std.specs.Prelude.{ℕ, ◌-◌, ◌<◌, ◌≤◌, ◌⊎◌, max, min, List, [], ◌++◌, drop, length, Contains}
use Rattle.ek_io.specs.Faults.{count_up}

-- A source in memory: the bytes to come, the most that one call gives (never 0), the numbers of the calls
-- that fail, the number of the next call and how many calls failed.
pub record SourceState : Type 0 where
  pub left : List ℕ
  pub piece : ℕ
  pub failing : List ℕ
  pub call : ℕ
  pub faults : ℕ

-- a source of these bytes before its first call; a piece of 0 counts as 1
abbrev pub fresh_source : List ℕ → ℕ → List ℕ → SourceState
fresh_source bytes piece failing = record { left = bytes; piece = max piece 1; failing = failing; call = 0; faults = 0 }

-- how many bytes the next call gives into a buffer of a length, where it does not fail
abbrev pub bytes_given : SourceState → ℕ → ℕ
bytes_given source buffer = min (min (length source.left) buffer) source.piece

-- the source after a call that gave so many bytes
abbrev pub source_after : SourceState → ℕ → SourceState
source_after source given = record source { left = drop given source.left; call = count_up source.call }

-- the source after a call that failed
abbrev pub source_after_fault : SourceState → SourceState
source_after_fault source = record source { call = count_up source.call; faults = count_up source.faults }

-- A sink in memory: the bytes written, the most that one call takes (never 0), and the calls as of a source.
pub record SinkState : Type 0 where
  pub written : List ℕ
  pub piece : ℕ
  pub failing : List ℕ
  pub call : ℕ
  pub faults : ℕ

-- an empty sink before its first call; a piece of 0 counts as 1
abbrev pub fresh_sink : ℕ → List ℕ → SinkState
fresh_sink piece failing = record { written = []; piece = max piece 1; failing = failing; call = 0; faults = 0 }

-- the bytes that a sink in memory holds at most
abbrev pub sink_room : ℕ
sink_room = 16777216

-- how many bytes the next call takes of a piece of a length, where it does not fail
abbrev pub bytes_taken : SinkState → ℕ → ℕ
bytes_taken sink offered = min (min offered sink.piece) (sink_room - length sink.written)

-- there are bytes to write and no room for one
pub record HasNoRoom (sink : SinkState) (bytes : List ℕ) : Type 0 where
  pub some : 0 < length bytes
  pub full : sink_room ≤ length sink.written

-- the next call fails, as it is listed or has no room
abbrev pub WriteFails : SinkState → List ℕ → Type 0
WriteFails sink bytes = Contains sink.failing sink.call ⊎ HasNoRoom sink bytes

-- the sink after a call that took these bytes
abbrev pub sink_after : SinkState → List ℕ → SinkState
sink_after sink taken = record sink { written = sink.written ++ taken; call = count_up sink.call }

-- the sink after a call that failed
abbrev pub sink_after_fault : SinkState → SinkState
sink_after_fault sink = record sink { call = count_up sink.call; faults = count_up sink.faults }

-- The devices of a session over a connection: the bytes that are read and written in time, and the waits.

use Rattle.std.specs.Prelude.{◌≡◌, ℕ, Bool, true, false, Option, None, Some, IfNone}
use Rattle.std.specs.Option.{is_some}
use Rattle.std_io.specs.declared.io.kind.ErrorKind.{ErrorKind}
use Rattle.ws_code.specs.Device.{Devices, Reader, Writer, on_devices}
use Rattle.ws_live.specs.live.Watches.{WatchTells, WatchTimes, WatchedDevices}
use Rattle.ws_live.specs.live.Watches.{watch_tells, watch_times, watched_devices}
use Rattle.std_io.specs.declared.io.kind.ErrorKind.TheVariants.{WouldBlock, TimedOut}

-- what is known of the reads from a connection: how many failed, of what kind the error of the last of these was, and
-- whether the time that was over then, if one was, was that in which nothing had come
pub record ConnectionReads : Type 0 where
  pub failures : ℕ
  pub failure : Option ErrorKind
  pub rested : Bool

-- no read has failed
abbrev pub no_reads : ConnectionReads
no_reads = record { failures = 0; failure = None; rested = false }

-- what is known of the writes to a connection: how many failed
pub record ConnectionWrites : Type 0 where
  pub failures : ℕ

-- no write has failed
abbrev pub no_writes : ConnectionWrites
no_writes = record { failures = 0 }

-- a read may give any bytes, or fail, and then it is kept why
abbrev pub timed_reader : Reader ConnectionReads
timed_reader = record {
  gives = λ from room given to. IfNone given (is_some to.failure ≡ true);
  failures = λ reads. reads.failures;
}

-- a write may take any bytes
abbrev pub timed_writer : Writer ConnectionWrites
timed_writer = record { takes = λ from bytes taken to. Unit {0}; failures = λ writes. writes.failures }

-- a connection
abbrev pub timed_devices : Devices ConnectionReads ConnectionWrites
timed_devices = on_devices timed_writer timed_reader

-- the errors by which the system says that a call took longer than its time
abbrev pub is_want_of_time : ErrorKind → Bool
is_want_of_time WouldBlock = true
is_want_of_time TimedOut = true
is_want_of_time kind = false

-- the error is that a call took longer than its time
abbrev is_late : Option ErrorKind → Bool
is_late None = false
is_late (Some kind) = is_want_of_time kind

-- the last read that failed did so for want of time
abbrev pub was_late : ConnectionReads → Bool
was_late reads = is_late reads.failure

-- what is told of a read that has failed: whether it did so for want of time, and then whether that was since nothing
-- had come
abbrev pub timed_tells : WatchTells ConnectionReads
timed_tells = watch_tells (λ reads late. late ≡ was_late reads) (λ reads quiet. quiet ≡ reads.rested)

-- a connection, and what is told of its reads
abbrev pub timed : WatchedDevices ConnectionReads ConnectionWrites
timed = watched_devices timed_devices timed_tells

-- That waits are over begins none. What the beginning of one does at a timer isn't known, but for the number of those
-- that have begun: no contract says what a clock tells.
abbrev pub timed_waits : WatchTimes ℕ ConnectionReads
timed_waits = watch_times (λ from to. to ≡ from) (λ from reads span to. Unit {0}) (λ begun. begun)

-- What an operator is told: the name of an event, and what stands behind it.
use Rattle.std.specs.Prelude.{ℕ, List, ◌++◌, codes, decimal}
use Rattle.std.specs.Net.Text.{socket_text, socket_v4_text}
use Rattle.fp_log.specs.declared.event.Event.{Event}
use Rattle.fp_log.specs.declared.event.Event.TheVariants.{Opened, Bound, ConnectionEnded}
use Rattle.fp_log.specs.declared.event.Event.TheVariants.{CompactionBegun, CompactionEnded}
use Rattle.fp_log.specs.declared.event.Event.TheVariants.{StoreFailed, Stopped, NotOpened}
use Rattle.fp_log.specs.declared.event.Event.TheVariants.{CallFailed, NotBound, NotConnected}
use Rattle.fp_log.specs.declared.event.Event.TheVariants.{NotStarted, MemoryWanting}
use Rattle.fp_log.specs.declared.event.Cause.{Cause}
use Rattle.fp_log.specs.declared.event.Cause.TheVariants.{Idle, SlowRequest, SlowReply}
use Rattle.fp_log.specs.declared.event.Cause.TheVariants.{HttpRequest, NoHello, NoPlace, Fault}
use Rattle.fp_log.specs.declared.event.Port.{Port}
use Rattle.fp_log.specs.declared.event.Port.TheVariants.{Ofrep, Edit, Stream}
use Rattle.fp_log.specs.declared.event.Source.{Source}
use Rattle.fp_log.specs.declared.event.Source.TheVariants.{File, Input, Output, Connection}

abbrev pub port_name : Port → List ℕ
port_name Ofrep = codes "ofrep"
port_name Edit = codes "edit"
port_name Stream = codes "stream"

abbrev pub source_name : Source → List ℕ
source_name File = codes "file"
source_name Input = codes "standard-input"
source_name Output = codes "standard-output"
source_name Connection = codes "connection"

abbrev pub cause_name : Cause → List ℕ
cause_name Idle = codes "idle"
cause_name SlowRequest = codes "slow-request"
cause_name SlowReply = codes "slow-reply"
cause_name HttpRequest = codes "http-request"
cause_name NoHello = codes "no-hello"
cause_name NoPlace = codes "no-place"
cause_name Fault = codes "fault"

abbrev pub name_of : Event → List ℕ
name_of (Opened path revision flags milliseconds) = codes "opened"
name_of (Bound port address) = codes "bound"
name_of (ConnectionEnded port peer cause) = codes "connection-ended"
name_of (CompactionBegun revision) = codes "compaction-begun"
name_of (CompactionEnded revision) = codes "compaction-ended"
name_of (StoreFailed revision) = codes "store-failed"
name_of (Stopped revision) = codes "stopped"
name_of (NotOpened path) = codes "not-opened"
name_of (CallFailed call source) = codes "call-failed"
name_of (NotBound port address) = codes "not-bound"
name_of (NotConnected address) = codes "not-connected"
name_of (NotStarted thread) = codes "not-started"
name_of (MemoryWanting of) = codes "memory-wanting"

-- of an opening: how much was opened, how long it took, and where
abbrev pub opening_text : (path : List ℕ) → (revision flags milliseconds : ℕ) → List ℕ
opening_text path revision flags milliseconds = codes "revision=" ++ decimal revision
    ++ codes " flags=" ++ decimal flags ++ codes " ms=" ++ decimal milliseconds
    ++ codes " path=" ++ path

-- what stands behind the name, all of it
abbrev pub text_of : Event → List ℕ
text_of (Opened path revision flags milliseconds) =
    opening_text path.now revision flags milliseconds
text_of (Bound port address) =
    codes "port=" ++ port_name port ++ codes " address=" ++ socket_text address
text_of (ConnectionEnded port peer cause) = codes "port=" ++ port_name port
    ++ codes " peer=" ++ socket_text peer ++ codes " cause=" ++ cause_name cause
text_of (CompactionBegun revision) = codes "revision=" ++ decimal revision
text_of (CompactionEnded revision) = codes "revision=" ++ decimal revision
text_of (StoreFailed revision) = codes "revision=" ++ decimal revision
text_of (Stopped revision) = codes "revision=" ++ decimal revision
text_of (NotOpened path) = codes "path=" ++ path.now
text_of (CallFailed call source) = codes "call=" ++ call.now ++ codes " of=" ++ source_name source
text_of (NotBound port address) =
    codes "port=" ++ port_name port ++ codes " address=" ++ socket_v4_text address
text_of (NotConnected address) = codes "address=" ++ socket_v4_text address
text_of (NotStarted thread) = codes "thread=" ++ thread.now
text_of (MemoryWanting of) = codes "of=" ++ of.now

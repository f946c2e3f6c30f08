-- The keys of a server's settings, and how they are written.
use Rattle.std.specs.Prelude.{ℕ, List, [], Option, Some, None, codes}
use Rattle.toml.specs.Data.{Data, Members, get_member}
use Rattle.settings.specs.Keys.{path_of}
use Rattle.settings_file.specs.Places.{KeyPlace, name_at}
use Rattle.settings_file.specs.declared.serve.key.ServeKey.{ServeKey}
use Rattle.settings_file.specs.declared.serve.key.ServeKey.TheVariants as key

-- how a key is written; of a key of a link, how the array of links is
abbrev pub key_front : ServeKey → List ℕ
key_front key.Serve = codes "serve"
key_front key.TickMs = codes "serve.tick_ms"
key_front key.Console = codes "serve.console"
key_front key.Capture = codes "serve.capture"
key_front key.CaptureSize = codes "serve.capture_size"
key_front key.CaptureFiles = codes "serve.capture_files"
key_front key.ConsoleOpen = codes "serve.console_open"
key_front key.Points = codes "serve.points"
key_front key.Udp = codes "serve.udp"
key_front key.Sctp = codes "serve.sctp"
key_front key.RtoInitialMs = codes "serve.sctp.rto_initial_ms"
key_front key.RtoMinMs = codes "serve.sctp.rto_min_ms"
key_front key.RtoMaxMs = codes "serve.sctp.rto_max_ms"
key_front key.InitTries = codes "serve.sctp.init_tries"
key_front key.Retransmissions = codes "serve.sctp.retransmissions"
key_front key.HeartbeatMs = codes "serve.sctp.heartbeat_ms"
key_front key.PageOpen = codes "serve.page_open"
key_front key.Page = codes "serve.page"
key_front key.LogTimes = codes "serve.log_times"
key_front key.LogLeast = codes "serve.log_least"
key_front key.LogForm = codes "serve.log_form"
key_front (key.LinkListen i) = codes "link"
key_front (key.LinkFrom i) = codes "link"
key_front (key.LinkConnect i) = codes "link"
key_front (key.LinkRemote i) = codes "link"
key_front (key.LinkSctpPort i) = codes "link"
key_front (key.LinkRemoteSctpPort i) = codes "link"
key_front (key.LinkTries i) = codes "link"
key_front (key.LinkRemotePortFixed i) = codes "link"
key_front (key.LinkAddresses i) = codes "link"

-- the index of the link that a key is in, from 0
abbrev pub key_index : ServeKey → Option ℕ
key_index (key.LinkListen i) = Some i
key_index (key.LinkFrom i) = Some i
key_index (key.LinkConnect i) = Some i
key_index (key.LinkRemote i) = Some i
key_index (key.LinkSctpPort i) = Some i
key_index (key.LinkRemoteSctpPort i) = Some i
key_index (key.LinkTries i) = Some i
key_index (key.LinkRemotePortFixed i) = Some i
key_index (key.LinkAddresses i) = Some i
key_index other = None

-- what is after the index: a dot and the key in its link, or nothing
abbrev pub key_back : ServeKey → List ℕ
key_back (key.LinkListen i) = codes ".listen"
key_back (key.LinkFrom i) = codes ".from"
key_back (key.LinkConnect i) = codes ".connect"
key_back (key.LinkRemote i) = codes ".remote"
key_back (key.LinkSctpPort i) = codes ".sctp_port"
key_back (key.LinkRemoteSctpPort i) = codes ".remote_sctp_port"
key_back (key.LinkTries i) = codes ".tries"
key_back (key.LinkRemotePortFixed i) = codes ".remote_port_fixed"
key_back (key.LinkAddresses i) = codes ".addresses"
key_back other = []

-- where a key of a server is: `serve.tick_ms`, or `listen` of a link
abbrev pub key_place : ServeKey → KeyPlace
key_place key = record { front = key_front key; entry = key_index key; back = key_back key }

-- how a key is written: `serve.tick_ms`, `link[2].listen`
abbrev pub key_path : ServeKey → List ℕ
key_path key = path_of (key_front key) (key_index key) (key_back key)

-- how a key is written in its table, or in its link
unfoldable pub key_name : ServeKey → List ℕ
key_name key = name_at (key_place key)

-- the value of a key, if it is there
abbrev pub found_at : ServeKey → Members → Option Data
found_at key t = get_member (key_name key) t

-- The application that comes with the server, by the path.
use Rattle.std.specs.Prelude.{ℕ, Bool, true, false, List, [], ◌∷◌, ◌++◌, length, Option, Some, None, if◌then◌else◌, codes, decimal}
use Rattle.std.specs.List.{flat_map}
use Rattle.std.specs.Str.{bytes_eq}
use Rattle.http_messages.specs.Environ.{Pair, pair_value}
use Rattle.wsgi_core.specs.declared.reply.Reply.{Reply}
use Rattle.wsgi_core.specs.declared.reply.Reply.TheVariants.{Raised, Started}
use Rattle.wsgi_core.specs.declared.reply.Response.{Response}
use Rattle.wsgi_core.specs.declared.shipped.Route.{Route}
use Rattle.wsgi_core.specs.declared.shipped.Route.TheVariants.{Root, Echo, Chunks, Pairs, Raise, Late, Bad, Unknown}
use Rattle.wsgi_core.specs.Applications.{App}

abbrev pub content_type : List ℕ → Pair
content_type kind = (codes "Content-Type", kind)

abbrev pub content_length : List ℕ → Pair
content_length body = (codes "Content-Length", decimal (length body))

-- a body of one piece, with its type and its length
abbrev pub whole_reply : List ℕ → List ℕ → List ℕ → Reply
whole_reply status kind body =
    Started (record { status = status; headers = content_type kind ∷ content_length body ∷ []; pieces = body ∷ []; raised = false })

abbrev pub pair_text : Pair → List ℕ
pair_text p = p.0 ++ codes "=" ++ p.1 ++ 10 ∷ []

-- a line for each pair
abbrev pub environ_text : List Pair → List ℕ
environ_text environ = flat_map pair_text environ

abbrev pub hello : List ℕ
hello = codes "hello" ++ 10 ∷ []

abbrev pub not_found : List ℕ
not_found = codes "not found" ++ 10 ∷ []

-- a text without its length, in these pieces
abbrev pub text_response : List (List ℕ) → Bool → Response
text_response pieces raised =
    record { status = codes "200 OK"; headers = content_type (codes "text/plain") ∷ []; pieces = pieces; raised = raised }

-- pieces of which one is empty
abbrev pub chunks_reply : Reply
chunks_reply = Started (text_response (codes "one" ∷ [] ∷ codes "two" ∷ []) false)

-- one that breaks off
abbrev pub late_reply : Reply
late_reply = Started (text_response (codes "part" ∷ []) true)

-- one with a header that is not the application's to send
abbrev pub bad_reply : Reply
bad_reply = Started (record (text_response [] false) { headers = content_type (codes "text/plain") ∷ (codes "Connection", codes "close") ∷ [] })

abbrev pub route_of : List ℕ → Route
route_of path =
    if bytes_eq path (codes "/") then Root
    else if bytes_eq path (codes "/echo") then Echo
    else if bytes_eq path (codes "/chunks") then Chunks
    else if bytes_eq path (codes "/environ") then Pairs
    else if bytes_eq path (codes "/raise") then Raise
    else if bytes_eq path (codes "/late") then Late
    else if bytes_eq path (codes "/bad") then Bad
    else Unknown

unfoldable pub reply_at : Route → List Pair → List ℕ → Reply
reply_at Root environ body = whole_reply (codes "200 OK") (codes "text/plain") hello
reply_at Echo environ body = whole_reply (codes "200 OK") (codes "application/octet-stream") body
reply_at Chunks environ body = chunks_reply
reply_at Pairs environ body = whole_reply (codes "200 OK") (codes "text/plain") (environ_text environ)
reply_at Raise environ body = Raised
reply_at Late environ body = late_reply
reply_at Bad environ body = bad_reply
reply_at Unknown environ body = whole_reply (codes "404 Not Found") (codes "text/plain") not_found

abbrev pub or_empty : Option (List ℕ) → List ℕ
or_empty None = []
or_empty (Some path) = path

-- the path of a request, by its environ
abbrev pub path_of : List Pair → List ℕ
path_of environ = or_empty (pair_value (codes "PATH_INFO") environ)

-- every request of a connection alike
unfoldable pub shipped : App
shipped number environ body = reply_at (route_of (path_of environ)) environ body

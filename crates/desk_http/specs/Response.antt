-- The response to a request (RFC 9112, section 2.1 and 4).
use Rattle.std.specs.Prelude.{ℕ, ◌&&◌, List, [], ◌++◌, codes, decimal, if◌then◌else◌, nat_le, nat_lt, Option, Some, None, unwrap_or}
use Rattle.http.specs.StatusCode.{reason_phrase}

-- the phrase of a status code, which other numbers do not have
abbrev pub phrase : ℕ → List ℕ
phrase status = if nat_le 100 status && nat_lt status 1000 then unwrap_or (reason_phrase status) [] else []

-- the status line, and the type of the text
abbrev pub status_lines : ℕ → List ℕ
status_lines status = codes "HTTP/1.1 " ++ (decimal status ++ (codes " " ++ (phrase status ++ codes "\r\nContent-Type: text/plain\r\n")))

-- the type of the message, where the text is one
abbrev pub type_line : Option ℕ → List ℕ
type_line None = []
type_line (Some mt) = codes "Message-Type: " ++ (decimal mt ++ codes "\r\n")

-- the lines before the text, the empty one that ends them among them
abbrev pub response_head : ℕ → Option ℕ → List ℕ
response_head status mt = status_lines status ++ (type_line mt ++ codes "Connection: close\r\n\r\n")

-- a status, a message type and a text. The end of the connection ends the text.
abbrev pub response : ℕ → Option ℕ → List ℕ → List ℕ
response status mt text = response_head status mt ++ text

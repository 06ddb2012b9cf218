-- The first line of an HTTP/1 request (RFC 9112, section 3): a token, a space, a target, a space and
-- the version. Over TLS it is whatever begins a handshake (RFC 8446, section 5.1).
use Rattle.std.specs.Prelude.{◌≡◌, ℕ, List, [], ◌∷◌, Bool, true, false, ◌&&◌, ◌||◌, ◌==◌}
use Rattle.std.specs.Prelude.{if◌then◌else◌, codes, drop}
use Rattle.std.specs.Char.{is_ascii_digit}
use Rattle.httparse.specs.Grammar.{is_token_byte, is_uri_byte}
use Rattle.fp_session.specs.Lines.{lines}
use Rattle.fp_session.specs.declared.request.RequestLine.{RequestLine}
use Rattle.fp_session.specs.declared.request.RequestLine.TheVariants.{Nothing, Method, MethodEnd}
use Rattle.fp_session.specs.declared.request.RequestLine.TheVariants.{Target, Version, Whole}
use Rattle.fp_session.specs.declared.request.RequestLine.TheVariants.{Return, Handshake, Other}

abbrev pub is_nothing : List ℕ → Bool
is_nothing [] = true
is_nothing (b ∷ bs) = false

-- the newline's carriage return, or nothing
abbrev pub is_line_end : List ℕ → Bool
is_line_end [] = true
is_line_end (b ∷ bs) = b == 13 && is_nothing bs

-- what is left of `HTTP/1.`, a digit, and the end
abbrev pub is_version : List ℕ → List ℕ → Bool
is_version left [] = false
is_version [] (b ∷ bs) = is_ascii_digit b && is_line_end bs
is_version (v ∷ vs) (b ∷ bs) = b == v && is_version vs bs

abbrev pub version : List ℕ
version = codes "HTTP/1."

-- more of the target, or a space and the version
abbrev pub is_target_left : List ℕ → Bool
is_target_left [] = false
is_target_left (b ∷ bs) = if b == 32 then is_version version bs
    else is_uri_byte b && is_target_left bs

abbrev pub is_target : List ℕ → Bool
is_target [] = false
is_target (b ∷ bs) = is_uri_byte b && is_target_left bs

-- more of the method, or a space and what is behind it
abbrev pub is_method_left : List ℕ → Bool
is_method_left [] = false
is_method_left (b ∷ bs) = if b == 32 then is_target bs
    else is_token_byte b && is_method_left bs

abbrev pub is_request_line : List ℕ → Bool
is_request_line [] = false
is_request_line (b ∷ bs) = is_token_byte b && is_method_left bs

-- in clear, or the type of a TLS record that shakes hands and what is behind it
abbrev pub is_http_line : List ℕ → Bool
is_http_line [] = false
is_http_line (b ∷ bs) = b == 22 || is_request_line (b ∷ bs)

abbrev pub IsHttpRequest : List ℕ → Type 0
IsHttpRequest line = is_http_line line ≡ true

-- ---- of an input

abbrev pub first_of : List (List ℕ) → List ℕ
first_of [] = []
first_of (line ∷ later) = line

abbrev pub first_line : List ℕ → List ℕ
first_line input = first_of (lines input)

-- ---- as it comes in

-- whether these bytes make a request line whole that came so far
abbrev pub is_left : RequestLine → List ℕ → Bool
is_left Nothing bs = is_http_line bs
is_left Method bs = is_method_left bs
is_left MethodEnd bs = is_target bs
is_left Target bs = is_target_left bs
is_left (Version came) bs = is_version (drop came version) bs
is_left Whole bs = is_line_end bs
is_left Return bs = is_nothing bs
is_left Handshake bs = true
is_left Other bs = false

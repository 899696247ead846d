-- The words of a command line that name a host and a port: `HOST`, `HOST:PORT`, `[V6]`, `[V6]:PORT` and a bare `V6`, an
-- address of IPv6 (RFC 4291, 2.2; its brackets RFC 3986, 3.2.2; its zone RFC 4007, 11). The bytes 91 and 93 are the
-- brackets, 58 is the colon, 37 the percent sign.

use Rattle.std.specs.Prelude.{◌≡◌, ◌≢◌, ℕ, ◌<◌, ◌^◌, List, [], ◌∷◌, ◌++◌, ◌⊎◌, Option, None, Some}
use Rattle.std.specs.Prelude.{length, slice_index, MatchOption}
use Rattle.std.specs.Borrow.{Bor}
use Rattle.std.specs.Option.{option_map}
use Rattle.std.specs.Net.Grammar.{IsIpv6Text, IsNumber}
use Rattle.std.specs.declared.net.ipv6_addr.Ipv6Addr.{Ipv6Addr}

-- the text is an address of IPv6 without a zone
abbrev pub IsPlainV6 : List ℕ → Type 0
IsPlainV6 text = (address : Ipv6Addr) × IsIpv6Text text address

-- a port in decimal digits, at most 65,535
abbrev pub IsPort : List ℕ → ℕ → Type 0
IsPort digits port = IsNumber 10 digits port × (port < 2 ^ 16)

-- no byte of a text is this one
abbrev pub HasNo : ℕ → List ℕ → Type 0
HasNo byte text = (i : ℕ) → i < length text → slice_index text i ≢ byte

-- a zone, the name or the number of an interface: not empty, and without a colon
abbrev pub IsZone : List ℕ → Type 0
IsZone zone = (zone ≢ []) × HasNo 58 zone

-- an address of IPv6, and a zone after its percent sign
pub record IsZonedV6 (text : List ℕ) : Type 0 where
  pub address : List ℕ
  pub zone : List ℕ
  pub spelled : text ≡ address ++ 37 ∷ zone
  pub plain : IsPlainV6 address
  pub front : HasNo 37 address
  pub zoned : IsZone zone

-- the text is an address of IPv6, with a zone or without
abbrev pub IsV6 : List ℕ → Type 0
IsV6 text = IsPlainV6 text ⊎ IsZonedV6 text

-- nothing, or a byte and a text after it
abbrev pub led_by : ℕ → Option (List ℕ) → List ℕ
led_by byte None = []
led_by byte (Some text) = byte ∷ text

-- an address of IPv6 in brackets, and what stands after it
pub record IsBracketed (text host behind : List ℕ) : Type 0 where
  pub spelled : text ≡ 91 ∷ (host ++ 93 ∷ behind)
  pub address : IsV6 host
  pub inside : HasNo 93 host

-- a name or an address of IPv4, which has no colon and doesn't begin with a bracket, and what stands after it
pub record IsNamed (text host behind : List ℕ) : Type 0 where
  pub spelled : text ≡ host ++ behind
  pub some : host ≢ []
  pub whole : HasNo 58 host
  pub unbracketed : (more : List ℕ) → text ≢ 91 ∷ more

-- the host that a text names, and its port's text where there is one: a text that is an address of IPv6 names this
pub data IsHostText (text host : List ℕ) (port : Option (List ℕ)) : Type 0 where
  bare : IsV6 text → host ≡ text → port ≡ None → IsHostText text host port
  bracketed : (IsV6 text → ⊥) → IsBracketed text host (led_by 58 port) → IsHostText text host port
  named : (IsV6 text → ⊥) → IsNamed text host (led_by 58 port) → IsHostText text host port

-- a port to connect to, by its text: where there is none, that of Telnet (RFC 854)
abbrev pub IsPortOr : Option (List ℕ) → ℕ → Type 0
IsPortOr None port = port ≡ 23
IsPortOr (Some digits) port = IsPort digits port

-- the host and the port that a word names, to connect to
abbrev pub IsHostPort : List ℕ → List ℕ → ℕ → Type 0
IsHostPort text host port = (digits : Option (List ℕ)) × IsHostText text host digits × IsPortOr digits port

-- the host and the port that a word names, to listen at; the port has to stand there
abbrev pub IsListening : List ℕ → List ℕ → ℕ → Type 0
IsListening text host port = (digits : List ℕ) × IsHostText text host (Some digits) × IsPort digits port

-- what is found of a host and its port's text, with those that there are
abbrev pub IsHostFound : (List ℕ → Option (List ℕ) → Type 0) → Option (Bor (List ℕ) × Option (Bor (List ℕ))) → Type 0
IsHostFound IsHost found = MatchOption found ((host : List ℕ) (port : Option (List ℕ)) → IsHost host port → ⊥)
    (λ parts. IsHost parts.0.now (option_map (λ port. port.now) parts.1))

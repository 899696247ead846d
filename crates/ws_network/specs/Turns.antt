-- In which order the addresses of a name are tried (as in RFC 8305, 4).

use Rattle.std.specs.Prelude.{List, [], ◌∷◌, if◌then◌else◌, filter}
use Rattle.std.specs.declared.net.socket_addr.SocketAddr.{SocketAddr}
use Rattle.std.specs.Net.Addr.{is_ipv4, is_ipv6}
use Rattle.std.specs.Net.Socket.{socket_ip}

-- one of each list by turns, and then what is left of either
abbrev pub turns : {A : Type 0} → List A → List A → List A
turns [] others = others
turns (one ∷ more) [] = one ∷ more
turns (one ∷ more) (other ∷ others) = one ∷ (other ∷ turns more others)

-- the addresses of IPv4, in their order
abbrev pub of_v4 : List SocketAddr → List SocketAddr
of_v4 found = filter (λ address. is_ipv4 (socket_ip address)) found

-- the addresses of IPv6, in their order
abbrev pub of_v6 : List SocketAddr → List SocketAddr
of_v6 found = filter (λ address. is_ipv6 (socket_ip address)) found

-- the addresses of both families by turns, from the first on
abbrev pub by_turns : List SocketAddr → List SocketAddr
by_turns [] = []
by_turns (first ∷ more) = if is_ipv4 (socket_ip first) then turns (of_v4 (first ∷ more)) (of_v6 (first ∷ more))
    else turns (of_v6 (first ∷ more)) (of_v4 (first ∷ more))

-- What contracts see of a `Head`.
use Rattle.cbor_item.specs.declared.head.Head.{Head}
use Rattle.cbor_item.specs.Head.{HeadRead}

-- a head's three parts
abbrev pub head_read : Head → HeadRead
head_read h = record { major = h.major; argument = h.argument; length = h.length }

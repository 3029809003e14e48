-- The limits of the service, and of the tree below it.
use Rattle.std.specs.Prelude.{ℕ}

-- bytes of a key
abbrev pub key_limit : ℕ
key_limit = 1024

-- bytes of a value, and of a word of a request
abbrev pub value_limit : ℕ
value_limit = 1048576

-- write numbers, snapshot ids, quotas and counts
abbrev pub number_limit : ℕ
number_limit = 9223372036854775807

-- tenants, whose indexes are numbered from 1
abbrev pub tenant_limit : ℕ
tenant_limit = 65535

-- words of a request in array form
abbrev pub words_limit : ℕ
words_limit = 1024

-- rows of one RANGE
abbrev pub count_limit : ℕ
count_limit = 1024

-- bytes of an inline request's line, before its LF
abbrev pub line_limit : ℕ
line_limit = 65536

-- keys of one DEL
abbrev pub deleted_limit : ℕ
deleted_limit = 64

-- live snapshots of one tenant
abbrev pub snapshot_limit : ℕ
snapshot_limit = 64

-- leaves of the cache
abbrev pub cache_limit : ℕ
cache_limit = 65536

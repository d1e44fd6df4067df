-- Document 01, "Lent memory": the list of buffers and their bytes. Document 02, ticket 5, has another length for the
-- picture, and a buffer more; ticket 8 has one more.
use Rattle.std.specs.Prelude.{ℕ}

abbrev pub shared_bytes : ℕ
shared_bytes = 65536

abbrev pub private_bytes : ℕ
private_bytes = 2048

abbrev pub screen_bytes : ℕ
screen_bytes = 4096

abbrev pub attribute_bytes : ℕ
attribute_bytes = 4096

abbrev pub glyph_bytes : ℕ
glyph_bytes = 4096

abbrev pub nvm_bytes : ℕ
nvm_bytes = 256

abbrev pub shadow_bytes : ℕ
shadow_bytes = 256

-- 02, ticket 5: "the picture has 6,700 bytes"
abbrev pub picture_bytes : ℕ
picture_bytes = 6700

abbrev pub line_bytes : ℕ
line_bytes = 1188

-- 02, ticket 5: "a lent list of 480 bytes"
abbrev pub list_bytes : ℕ
list_bytes = 480

-- 02, ticket 8: "Keep in 8,192 bytes"
abbrev pub index_bytes : ℕ
index_bytes = 8192

-- What is proved of the definitions, each law once, for this crate's proofs and for the layers above.
--     RoundTrip: write_read, read_write       what is written is read back, and what is read and written again is the same bytes
--     RoundTrip: reads_back, writes_back      the same as the promises of writing and reading say it, where they refuse too
--     RoundTrip: write_keeps, write_keeps_length, refused_keeps    writing leaves every other byte and the buffer's length as they were; refused, every byte
--     Kind: command_by_kind                   which command a byte says

pub mod Bytes
pub mod Storing
pub mod RoundTrip
pub mod Kind

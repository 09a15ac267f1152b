-- a reader's known bytes, as far as the buffer has room, are the input that it holds
mod Known

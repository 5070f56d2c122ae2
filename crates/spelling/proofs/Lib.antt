-- Reading an order face by face.
pub mod Steps

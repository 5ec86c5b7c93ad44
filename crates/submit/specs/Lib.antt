pub mod Submit
